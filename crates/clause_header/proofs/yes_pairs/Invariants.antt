-- `yes_pairs` meets its contract. The invariant: the sum over the first x pairs.
use mathlib.Core.Path.{◌≡◌}
use Prim.Native.Nat.{◌≤◌}
use Rattle.meaning.specs.Counting.{total}
use Rattle.clause_header.proofs.Counting.{yes_at}
use Rattle.clause_header.proofs.yes_pairs.Given as goal

abbrev pub invariant-loop-x : goal.invariant-loop-x
invariant-loop-x l = (l.count ≡ total l.x (yes_at l.z)) × (l.count ≤ l.x)
