-- `items_from` meets its contract.
use native.Mathlib.Omega.{arith}
use Rattle.std.proofs.lemmas.Result.{err_from_is_err_and}
use Rattle.hoa_header.proofs.Opened.{items_none, item_refused, item_further, item_more, body_opens, no_item}
use Rattle.hoa_header.proofs.items_from.Goals as goal

pub loop-start-init : goal.loop-start-init
loop-start-init c = items_none _ _ c.requires _ c.no_items-items.ensures

pub returns-in_err-read-in-Item : goal.returns-in_err-read-in-Item
returns-in_err-read-in-Item c =
    let p = err_from_is_err_and c.from_residual.result c.from_residual.ensures.1 in
    rw (p.1, p.2) (item_refused _ _ _ _ c.loop-start.invariant _ _ c.in-Item.ensures _ c.in_err-read-in-Item.ensures)

pub loop-start-smaller : goal.loop-start-smaller
loop-start-smaller c =
    let g = item_further _ _ _ _ c.loop-start.invariant _ _ c.in-Item.ensures _ c.in_ok-read-in-Item.ensures in
    omega (arith, g.0, g.1)

pub loop-start-preserved : goal.loop-start-preserved
loop-start-preserved c = item_more _ _ _ _ c.loop-start.invariant _ _ c.in-Item.ensures _ c.in_ok-read-in-Item.ensures

pub returns-in-Body : goal.returns-in-Body
returns-in-Body c = body_opens _ _ _ _ c.loop-start.invariant _ c.in-Body.ensures c.opening.result c.opening.ensures

pub returns-in_default : goal.returns-in_default
returns-in_default c = no_item _ _ _ _ c.loop-start.invariant _ _ c.next_token.ensures c.in_default.not-Item c.in_default.not-Body c.offset.ensures
