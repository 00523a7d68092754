-- `closures_by` meets its contract. The invariant: the sum over the first j sets.
use mathlib.Core.Path.{◌≡◌, ap, ◌∙◌}
use Prim.Native.Nat.{◌^◌}
use Rattle.encoding.specs.Clauses.{◌∪◌}
use Rattle.meaning.specs.Counting.{total}
use Rattle.clause_header.specs.ClosureCount.{pairs_for}
use Rattle.clause_sizes.specs.Limits.{reference_subsets_le}
use Rattle.clause_header.proofs.Counting.{total_none, total_more}
use native.Mathlib.Omega.{arith}
use Rattle.clause_header.proofs.closures_by.Goals as goal

pub loop-j-init : goal.loop-j-init
loop-j-init c = (total_none _, omega arith)

pub loop-j-preserved : goal.loop-j-preserved
loop-j-preserved c = (total_more _ _ c.loop-j.invariant.0 c.pairs_for-count.ensures.0, omega (arith, c.pairs_for-count.ensures.1))

pub returns : goal.returns
returns c =
    let e : c.loop-j.j ≡ 2 ^ c.args.z.reference.sets = omega (arith, c.requires.0.reference_subsets) in
    (c.loop-j.invariant.0 ∙ ap (λ k. total k (λ i. pairs_for c.args.z c.args.accepted (i ∪ c.args.f))) e, omega (arith, reference_subsets_le c.requires.0))
