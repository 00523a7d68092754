-- `closure::close` meets its contract.
use Rattle.reach.specs.Closing.{Closed}
use Rattle.reach.proofs.closure.close.Given as goal

abbrev pub invariant-loop-k : goal.invariant-loop-k
invariant-loop-k l = Closed l.states l.initial.rows l.k l.rows
