-- `closure::through` meets its contract.
use Rattle.reach.specs.Closing.{Through}
use Rattle.reach.proofs.closure.through.Given as goal

abbrev pub invariant-loop-row : goal.invariant-loop-row
invariant-loop-row l = Through l.k l.initial.rows l.row-index l.rows
