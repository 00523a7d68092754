-- `rows_with` meets its contract.
use Rattle.clause_rows.proofs.Laws.{Summed}
use Rattle.clause_rows.proofs.rows_with.Given as goal

abbrev pub invariant-loop-u : goal.invariant-loop-u
invariant-loop-u l = Summed l.fn.sets l.before l.pairs l.u
