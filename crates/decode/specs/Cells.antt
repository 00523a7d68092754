-- The table that is decoded, as the functions of src/ make it: entry i is that of the state i / 16 and the letter i % 16.
use Rattle.std.specs.Prelude.{◌≡◌, Option, Some, None, List, ℕ, ◌/◌, ◌%◌, ◌≤◌, ◌<◌, eqb, length, get_or}
use Rattle.meaning.specs.Automata.{Aut}
use Rattle.encoding.specs.Clauses.{marks_on, decoded}
use Rattle.encoding.specs.Named.{task_for}
use Rattle.clause_sizes.specs.Targets.{named}
use Rattle.clause_sizes.specs.declared.Sizes.{Sizes}
use Rattle.clause_sizes.specs.Numbers.{counted, number_of}
use Rattle.clause_sizes.specs.Sizes.{target_of}
use Rattle.decode.specs.declared.cells.Cell.{Cell}
use Rattle.decode.specs.Table.{entry}

-- the table by the sizes of a file and the values of a reader
abbrev pub table_by : Sizes → List ℕ → Aut
table_by z values = decoded (task_for (counted z) (named (target_of z))) (number_of z) (λ v. eqb (get_or values v 0) 1)

abbrev pub InUse : Aut → ℕ → Type 0
InUse C i = (i / 16 < C.states) × (i % 16 < C.letters)

-- the decoded step leads to a state; where no step is true it does not
abbrev pub Leads : Aut → ℕ → Type 0
Leads C i = C.step (i / 16) (i % 16) < C.states

abbrev pub destination_at : Aut → ℕ → ℕ
destination_at C i = entry C C.step (i / 16) (i % 16)

abbrev pub marks_at : Aut → ℕ → ℕ
marks_at C i = entry C (marks_on C) (i / 16) (i % 16)

-- a transition, or zeros where the state or the letter is not in use
pub record CellOf (C : Aut) (i : ℕ) (x : Cell) : Type 0 where
  pub leads : InUse C i → Leads C i
  pub destination_is : x.destination ≡ destination_at C i
  pub marks_is : x.marks ≡ marks_at C i

-- no step is true
abbrev pub NoCell : Aut → ℕ → Type 0
NoCell C i = InUse C i × ¬ Leads C i

-- the first k entries are filled
pub record Filled (C : Aut) (destinations marks : List ℕ) (k : ℕ) : Type 0 where
  pub reached : k ≤ 256
  pub destinations_size : length destinations ≡ 256
  pub marks_size : length marks ≡ 256
  pub leads : (i : ℕ) → i < k → InUse C i → Leads C i
  pub destinations_at : (i : ℕ) → i < k → get_or destinations i 0 ≡ destination_at C i
  pub marks_at_lem : (i : ℕ) → i < k → get_or marks i 0 ≡ marks_at C i

-- all of them, or those before the first that is in use and has no transition
abbrev pub FilledTo : Aut → List ℕ → List ℕ → Option ℕ → Type 0
FilledTo C destinations marks None = Filled C destinations marks 256
FilledTo C destinations marks (Some k) = Filled C destinations marks k × (k < 256) × NoCell C k
