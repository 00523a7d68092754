-- `add_mutual` meets its contract.
use Rattle.reach.specs.Mutual.{Mutual}
use Rattle.reach.proofs.add_mutual.Given as goal

abbrev pub invariant-loop-i : goal.invariant-loop-i
invariant-loop-i l = Mutual l.reached l.i l.rows
