-- What the clauses ask of the truth of the variables: the constraints, which are (1) to (4) of section 2.2 of the source. Soundness and
-- completeness use these alone.
use Rattle.std.specs.Prelude.{◌≡◌, Bool, true, ℕ, ◌^◌, ◌<◌}
use Rattle.meaning.specs.BitSet.{has}
use Rattle.encoding.specs.Variables.{Task, Var, step, mark, path, Present}
use Rattle.encoding.specs.Clauses.{marks_on, ◌∪◌}

-- the transition from p by l to t has just the marks of K
abbrev pub Marked : Task → (Var → Bool) → (p l t K : ℕ) → Type 0
Marked T val p l t K = (i : ℕ) → i < T.m → val (mark p l i t) ≡ has K i

-- what the clauses ask of the truth of the variables
pub record Constraints (T : Task) (val : Var → Bool) : Type 0 where
  pub total : (q l : ℕ) → q < T.n → l < T.reference.letters → (p : ℕ) × (p < T.n) × (val (step q l p) ≡ true)
  pub initial : val (path 0 T.reference.start 0 T.reference.start 0 0) ≡ true
  pub successor : (q p u l : ℕ) → Present T (path q u q u 0 0) → Present T (step q l p)
      → let w = T.reference.step u l in
      val (path q u q u 0 0) ≡ true → val (step q l p) ≡ true → val (path p w p w 0 0) ≡ true
  pub extension : (q p t u v l I J K : ℕ) → Present T (path q u p v I J) → Present T (step p l t) → K < 2 ^ T.m
      → let w = T.reference.step v l in
      let F = marks_on T.reference v l in
      Present T (path q u t w (I ∪ K) (J ∪ F))
      → val (path q u p v I J) ≡ true → val (step p l t) ≡ true → Marked T val p l t K → val (path q u t w (I ∪ K) (J ∪ F)) ≡ true
  pub closure : (q p v l I J K : ℕ) → let w = T.reference.step v l in
      let F = marks_on T.reference v l in
      Present T (path q w p v I J) → Present T (step p l q) → K < 2 ^ T.m
      → val (path q w p v I J) ≡ true → val (step p l q) ≡ true → Marked T val p l q K → T.accept (has (I ∪ K)) ≡ T.reference.accept (has (J ∪ F))
