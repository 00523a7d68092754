-- A map of A's states to B's that keeps the start and every transition, and the marks.
use Rattle.std.specs.Prelude.{◌≡◌, ℕ, ◌<◌}
use Rattle.meaning.specs.Automata.{Aut}

pub record Homomorphism (A B : Aut) (h : ℕ → ℕ) : Type 0 where
  pub letters : A.letters ≡ B.letters
  pub start : h A.start ≡ B.start
  pub step : (q l : ℕ) → q < A.states → l < A.letters → h (A.step q l) ≡ B.step (h q) l

-- a transition of A carries the sets that its image carries
abbrev pub KeepsMarks : Aut → Aut → (ℕ → ℕ) → Type 0
KeepsMarks A B h = (q l i : ℕ) → q < A.states → l < A.letters → i < A.sets → A.marks q l i ≡ B.marks (h q) l i
