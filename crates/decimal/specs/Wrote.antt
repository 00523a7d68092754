-- DEFINITION: what it means that a list was written into a buffer at a place.
use Rattle.std.specs.Prelude.{◌≡◌, List, ◌++◌, ℕ, ◌+◌, ◌≤◌, ◌<◌, length, take, drop}

-- e is the buffer d with the list w at the place `at`, and r is the place after it
pub record Wrote {A : Type 0} (d : List A) (at : ℕ) (w e : List A) (r : ℕ) : Type 0 where
  pub next : r ≡ at + length w
  pub room : r ≤ length d
  pub is : e ≡ take at d ++ (w ++ drop r d)

-- w was written where there is room for it, and otherwise nothing: the place stays
pub record WroteIfRoom {A : Type 0} (d : List A) (at : ℕ) (w e : List A) (r : ℕ) : Type 0 where
  pub roomy : at + length w ≤ length d → Wrote d at w e r
  pub short : length d < at + length w → (e ≡ d) × (r ≡ at)
