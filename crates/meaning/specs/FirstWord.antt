-- DEFINITIONS, 3 of 3: the word that shows a difference. Sentences in quotes are document 02's, request E5.
use Rattle.std.specs.Prelude.{◌≡◌, ◌⊎◌, List, [], ◌∷◌, ◌++◌, ℕ, ◌+◌, ◌<◌, length}
use Rattle.meaning.specs.Automata.{Aut, state}
use Rattle.meaning.specs.Agreement.{lasso, Distinguishes}

-- ---- the words of which one is given

-- the "loop, read once, brings" A "back to where it began": after the prefix x and one loop y the state is the one after x
abbrev pub BroughtBack : Aut → List ℕ → List ℕ → Type 0
BroughtBack A x y = state A (lasso x y) (length x + length y) ≡ state A (lasso x y) (length x)

-- "all that differ and whose loop, read once, brings both automata back to where it began"
pub record Shows (A B : Aut) (x y : List ℕ) : Type 0 where
  pub apart : Distinguishes A B x y
  pub back_A : BroughtBack A x y
  pub back_B : BroughtBack B x y

-- ---- their order

-- "smaller at the first difference", of two words of one length
abbrev pub Smaller : List ℕ → List ℕ → Type 0
Smaller [] v = ⊥
Smaller (a ∷ u) [] = ⊥
Smaller (a ∷ u) (b ∷ v) = (a < b) ⊎ ((a ≡ b) × Smaller u v)

-- "The least prefix plus loop length"; "between equals the shorter prefix is given, then the one whose letters, prefix first, are smaller at the
-- first difference": the lasso word of x and y comes before that of u and v, or is the same.
abbrev pub Precedes : List ℕ → List ℕ → List ℕ → List ℕ → Type 0
Precedes x y u v =
    (length x + length y < length u + length v)
    ⊎ ((length x + length y ≡ length u + length v)
    × ((length x < length u) ⊎ ((length x ≡ length u) × (Smaller (x ++ y) (u ++ v) ⊎ (x ++ y ≡ u ++ v)))))

-- ---- the word that is given

pub record FirstWord (A B : Aut) (x y : List ℕ) : Type 0 where
  pub shows : Shows A B x y
  pub first : (u v : List ℕ) → Shows A B u v → Precedes x y u v
