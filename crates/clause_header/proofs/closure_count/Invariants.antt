-- `closure_count` meets its contract. The invariant: the sum over the first y transitions.
use mathlib.Core.Path.{◌≡◌}
use Prim.Native.Nat.{◌*◌, ◌≤◌}
use Rattle.meaning.specs.Counting.{total}
use Rattle.clause_header.specs.ClosureCount.{closures_at}
use Rattle.clause_header.proofs.closure_count.Given as goal

abbrev pub invariant-loop-y : goal.invariant-loop-y
invariant-loop-y l = (l.count ≡ total l.y (closures_at l.z l.destinations l.marks l.accepted)) × (l.count ≤ l.y * 4096)
