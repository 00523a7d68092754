-- `items::skip` meets its contract.
use native.Mathlib.Omega.{arith}
use Rattle.hoa_header.proofs.Kept.{skipping_none, skipping_done, skipping_more}
use Rattle.hoa_header.proofs.items.skip.Goals as goal

pub loop-next-init : goal.loop-next-init
loop-next-init c = skipping_none _ _ c.requires

pub returns : goal.returns
returns c = skipping_done c.args.text.now c.args.at _ c.loop-next.invariant c.in_default.ensures

pub loop-next-smaller : goal.loop-next-smaller
loop-next-smaller c =
    let h = c.in-Some.ensures in
    omega (arith, h.from, h.to)

pub loop-next-preserved : goal.loop-next-preserved
loop-next-preserved c = skipping_more _ _ _ c.loop-next.invariant _ c.in-Some.ensures
