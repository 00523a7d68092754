-- `sharing` meets its contract. The invariant: the count over the first y of all u, v and l.
use mathlib.Core.Path.{◌≡◌, ap, ◌∙◌}
use Prim.Native.Nat.{◌*◌, ◌/◌, ◌%◌}
use Rattle.meaning.specs.Counting.{total}
use Rattle.clause_header.specs.SharingCount.{shares_by}
use Rattle.clause_header.proofs.Counting.{triples_le, triple_place, total_none, total_more}
use native.Mathlib.Omega.{arith}
use Rattle.clause_header.proofs.sharing.Goals as goal

pub loop-y-init : goal.loop-y-init
loop-y-init c = (total_none _, omega arith)

pub shares-count-requires : goal.shares-count-requires
shares-count-requires c = triple_place c.requires _ (omega arith)

pub loop-y-preserved : goal.loop-y-preserved
loop-y-preserved c = (total_more _ _ c.loop-y.invariant.0 c.shares-count.ensures.0, omega (arith, c.shares-count.ensures.1))

pub returns : goal.returns
returns c =
    let e : c.loop-y.y ≡ c.args.z.reference.states * c.args.z.reference.states * c.args.z.letters = omega arith in (
      c.loop-y.invariant.0 ∙ ap (λ i. total i (λ k. shares_by c.args.z c.args.destinations.now (k / c.args.z.letters / c.args.z.reference.states) (k / c.args.z.letters % c.args.z.reference.states) (k % c.args.z.letters))) e,
      omega (arith, triples_le c.requires),
    )
