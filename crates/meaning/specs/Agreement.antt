-- DEFINITIONS, 2 of 3: lasso words, and what it is for two automata to agree.
use Rattle.std.specs.Prelude.{◌≡◌, ◌≢◌, ◌⊎◌, List, [], ◌∷◌, ℕ, ◌-◌, ◌%◌, ◌<◌, length, get_or}
use Rattle.std.proofs.Math.Logic.{ite}
use Rattle.std.proofs.Math.Decide.{dec_lt}
use Rattle.meaning.specs.Automata.{Aut, WellFormed, Word, Inf, Accepts}

-- ---- lasso words

-- the prefix x, and then the loop y again and again
unfoldable pub lasso : List ℕ → List ℕ → Word
lasso x y i = ite (dec_lt i (length x)) (get_or x i 0) (get_or y ((i - length x) % length y) 0)

-- each letter of the finite word is below n
abbrev pub Over : ℕ → List ℕ → Type 0
Over n [] = Unit {0}
Over n (l ∷ w) = (l < n) × Over n w

-- ---- agreement

-- two automata over the same letters
pub record Comparable (A B : Aut) : Type 0 where
  pub formed_A : WellFormed A
  pub formed_B : WellFormed B
  pub same_letters : A.letters ≡ B.letters

-- "Two automata agree on a word if both accept it or neither does."
abbrev pub AgreeOn : Aut → Aut → Word → Type 0
AgreeOn A B w = (Accepts A w × Accepts B w) ⊎ (¬ Accepts A w × ¬ Accepts B w)

-- on every lasso word
unfoldable pub Agree : Aut → Aut → Type 0
Agree A B = (x y : List ℕ) → Over A.letters x → Over A.letters y → y ≢ [] → AgreeOn A B (lasso x y)

-- on every infinite word: the two have one language
unfoldable pub AgreeEverywhere : Aut → Aut → Type 0
AgreeEverywhere A B = (w : Word) → ((i : ℕ) → w i < A.letters) → Inf A w → Inf B w → AgreeOn A B w

-- "a word that one accepts and the other rejects": the lasso word of the prefix x and the loop y
pub record Distinguishes (A B : Aut) (x y : List ℕ) : Type 0 where
  pub over_x : Over A.letters x
  pub over_y : Over A.letters y
  pub some : y ≢ []
  pub apart : (Accepts A (lasso x y) × ¬ Accepts B (lasso x y)) ⊎ (¬ Accepts A (lasso x y) × Accepts B (lasso x y))
