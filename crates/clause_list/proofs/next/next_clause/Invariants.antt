-- `next_clause` meets its contract. The invariant: nothing is written yet, and what comes next from x on comes next from the beginning.
use Prim.Native.Nat.{◌-◌}
use Rattle.clause_list.proofs.Nexts.{Waiting}
use Rattle.clause_list.proofs.next.next_clause.Given as goal

abbrev pub invariant-loop-x : goal.invariant-loop-x
invariant-loop-x l = Waiting l.z l.start.0 l.destinations l.marks l.from l.x l.initial.out l.out

abbrev pub decreases-loop-x : goal.decreases-loop-x
decreases-loop-x l = l.g.all - l.x
