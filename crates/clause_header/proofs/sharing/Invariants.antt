-- `sharing` meets its contract. The invariant: the count over the first y of all u, v and l.
use mathlib.Core.Path.{◌≡◌}
use Prim.Native.Nat.{◌/◌, ◌%◌, ◌≤◌}
use Rattle.meaning.specs.Counting.{total}
use Rattle.clause_header.specs.SharingCount.{shares_by}
use Rattle.clause_header.proofs.sharing.Given as goal

abbrev pub invariant-loop-y : goal.invariant-loop-y
invariant-loop-y l = (l.count ≡ total l.y (λ k. shares_by l.z l.destinations (k / l.z.letters / l.states) (k / l.z.letters % l.states) (k % l.z.letters))) × (l.count ≤ l.y)
