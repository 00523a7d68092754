-- `items_from` meets its contract.
use Prim.Native.Nat.{◌-◌}
use lib.ListN.{length}
use Rattle.hoa_header.proofs.Opened.{ItemsSoFar}
use Rattle.hoa_header.proofs.items_from.Given as goal

abbrev pub invariant-loop-start : goal.invariant-loop-start
invariant-loop-start l = ItemsSoFar l.text l.at l.items l.end

abbrev pub decreases-loop-start : goal.decreases-loop-start
decreases-loop-start l = length l.text - l.end
