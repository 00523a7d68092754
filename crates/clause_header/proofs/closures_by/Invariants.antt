-- `closures_by` meets its contract. The invariant: the sum over the first j sets.
use mathlib.Core.Path.{◌≡◌}
use Prim.Native.Nat.{◌*◌, ◌≤◌}
use Rattle.encoding.specs.Clauses.{◌∪◌}
use Rattle.meaning.specs.Counting.{total}
use Rattle.clause_header.specs.ClosureCount.{pairs_for}
use Rattle.clause_header.proofs.closures_by.Given as goal

abbrev pub invariant-loop-j : goal.invariant-loop-j
invariant-loop-j l = (l.count ≡ total l.j (λ i. pairs_for l.z l.accepted (i ∪ l.f))) × (l.count ≤ l.j * 256)
