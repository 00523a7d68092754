-- DEFINITION: what a batch of lines holds.
use Rattle.std.specs.Prelude.{◌≡◌, ◌⊎◌, List, [], ◌∷◌, ℕ, ◌+◌, ◌≤◌, ◌<◌, ℤ, length, take, drop}
use Rattle.encoding.specs.Variables.{Task, Var}
use Rattle.encoding.specs.Positions.{positions}
use Rattle.decimal.specs.Wrote.{Wrote}
use Rattle.clause_list.specs.Next.{clauses_from}
use Rattle.clause_words.specs.Text.{line_text, lines_text}

-- The lines of the first clauses from position x on stand in the buffer d from the place `at` on, which is then e. They end at the place k, and
-- y is a position from which the clauses after those follow.
pub record Lines (T : Task) (num : Var → ℕ) (x : ℕ) (d : List ℕ) (at : ℕ) (e : List ℕ) (k y : ℕ) : Type 0 where
  -- how many clauses
  pub count : ℕ
  pub there : count ≤ length (clauses_from T num x)
  pub text : Wrote d at (lines_text (take count (clauses_from T num x))) e k
  pub next : clauses_from T num y ≡ drop count (clauses_from T num x)
  -- y lies in every range that x and all positions of the file lie in
  pub within : (bound : ℕ) → positions T num ≤ bound → x ≤ bound → y ≤ bound

-- there is a next clause from position y on, and its line is longer than what is left of a buffer of `size` bytes after the place k
pub record Longer (T : Task) (num : Var → ℕ) (size k y : ℕ) : Type 0 where
  pub clause : List ℤ
  pub others : List (List ℤ)
  pub next : clauses_from T num y ≡ clause ∷ others
  pub long : size < k + length (line_text clause)

-- as many whole lines as fit: no clause is left, or the next line does not fit
pub record Filling (T : Task) (num : Var → ℕ) (x : ℕ) (d e : List ℕ) (k y : ℕ) : Type 0 where
  pub lines : Lines T num x d 0 e k y
  pub stop : (clauses_from T num y ≡ []) ⊎ Longer T num (length d) k y
