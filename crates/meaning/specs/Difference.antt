-- A DIFFERENCE of two automata: a closed walk of their product that one accepts and the other rejects.
use Rattle.std.specs.Prelude.{◌≡◌, ◌≢◌, List, [], true, false, ℕ, ◌≤◌, length}
use Rattle.meaning.specs.Automata.{Aut}
use Rattle.meaning.specs.Agreement.{Over}
use Rattle.meaning.specs.ClosedLoop.{verdict, Closed}

-- A accepts the word that reads x and goes round y, and B does not
pub record Differ (A B : Aut) (x y : List ℕ) : Type 0 where
  pub over_x : Over A.letters x
  pub over_y : Over A.letters y
  pub some : y ≢ []
  pub closed_A : Closed A x y
  pub closed_B : Closed B x y
  pub yes_A : verdict A x y ≡ true
  pub no_B : verdict B x y ≡ false

-- each difference shows after the same prefix in a loop of at most m letters
abbrev pub LoopWithin : Aut → Aut → ℕ → Type 0
LoopWithin A B m = (x y : List ℕ) → Differ A B x y → (v : List ℕ) × Differ A B x v × (length v ≤ m)
