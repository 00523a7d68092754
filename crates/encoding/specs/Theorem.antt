-- What it is that a file encodes the equivalent candidates.
use Rattle.std.specs.Prelude.{◌≡◌, ◌↔◌, Bool, ℕ, ◌≤◌, ◌<◌}
use Rattle.meaning.specs.Automata.{Aut}
use Rattle.encoding.specs.Variables.{Task, Var}
use Rattle.encoding.specs.Clauses.{Assignment, Satisfies, file, decoded, Equivalent, SameTable}

-- The file of T with these numbers, up to `last`, encodes the equivalent candidates whose marks are of the kind.
pub record Encodes (T : Task) (num : Var → ℕ) (last : ℕ) (Kind : (ℕ → ℕ → ℕ → Bool) → Type 0) : Type 0 where
  -- what satisfies the file decodes to one
  pub sound : (ν : Assignment) → Satisfies ν (file T num) → Equivalent T (decoded T num ν) × Kind (decoded T num ν).marks
  -- each of them is decoded from what satisfies the file
  pub complete : (C : Aut) → Equivalent T C → Kind C.marks → (ν : Assignment) × Satisfies ν (file T num) × SameTable (decoded T num ν) C
  -- so the file can be satisfied if and only if there is one
  pub satisfiable : ((ν : Assignment) × Satisfies ν (file T num)) ↔ ((C : Aut) × Equivalent T C × Kind C.marks)
  -- only the numbers from 1 to the last count
  pub within : (ν ξ : Assignment) → ((k : ℕ) → 0 < k → k ≤ last → ν k ≡ ξ k) → Satisfies ν (file T num) → Satisfies ξ (file T num)
