-- DEFINITIONS: rows of reference states as the code carries them. Row u is the set of the states that u has path variables to.
use Rattle.std.specs.Prelude.{cond, List, ℕ, ◌-◌, ◌^◌, min, ltb, get_or}
use Rattle.meaning.specs.BitSet.{has}
use Rattle.meaning.specs.Counting.{total, how_many}
use Rattle.automaton.specs.Value.{table}
use Rattle.clause_rows.specs.declared.Rows.{Rows}

-- ---- all states in every row

abbrev pub full_set : ℕ → ℕ
full_set states = 2 ^ min states 16 - 1

abbrev pub full_row : ℕ → ℕ → ℕ
full_row states u = cond (ltb u states) (full_set states) 0

abbrev pub everywhere : ℕ → List ℕ
everywhere states = table 16 (full_row states)

-- ---- what rows hold

-- how many states the row u holds
abbrev pub held : List ℕ → ℕ → ℕ
held sets u = how_many 16 (has (get_or sets u 0))

-- how many the rows before each hold
abbrev pub sums_before : List ℕ → List ℕ
sums_before sets = table 16 (λ u. total u (held sets))

abbrev pub rows_of : List ℕ → Rows
rows_of sets = record { sets = sets; before = sums_before sets; pairs = total 16 (held sets) }
