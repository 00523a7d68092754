-- `everywhere` meets its contract.
use Rattle.meaning.specs.CountingLaws.{Filled}
use Rattle.clause_rows.specs.Rows.{full_row}
use Rattle.clause_rows.proofs.everywhere.Given as goal

abbrev pub invariant-loop-u : goal.invariant-loop-u
invariant-loop-u l = Filled (full_row l.states) 16 l.set-items l.u
