-- `listed` meets its contract.
use Prim.Native.Nat.{◌-◌}
use lib.ListN.{length}
use Rattle.hoa_marks.proofs.MarkLaws.{Listed}
use Rattle.hoa_marks.proofs.listed.Given as goal

abbrev pub invariant-loop-start : goal.invariant-loop-start
invariant-loop-start l = Listed l.text l.at l.sets l.set l.i

abbrev pub decreases-loop-start : goal.decreases-loop-start
decreases-loop-start l = length l.text - l.i
