-- `expected::behind_item` meets its contract.
use mathlib.Core.Path.{◌∙◌}
use Prim.Native.Nat.{◌-◌}
use native.Mathlib.Omega.{arith}
use lib.ListN.{length, take}
use Rattle.hoa_words.specs.Inside.{item_named}
use Rattle.hoa_header.proofs.Tokens.{item_stands, item_differs}
use Rattle.hoa_header.proofs.expected.behind_item.Goals as goal

pub overflow_add-result : goal.overflow_add-result
overflow_add-result c =
    let h = c.in-Item.ensures in
    omega (arith, h.lies.to)

pub returns-then-names_item : goal.returns-then-names_item
returns-then-names_item c =
    let h = c.in-Item.ensures in
    item_stands (take (length c.args.item.now - 1) c.args.item.now) _ _ _ _ h (item_named _ _ _ c.args.item.now _ c.names_item.ensures (omega (arith, h.lies.longer)) (omega (arith, h.lies.to)) c.requires ∙ c.if-names_item.true)

pub returns-else-names_item : goal.returns-else-names_item
returns-else-names_item c =
    let h = c.in-Item.ensures in
    item_differs (take (length c.args.item.now - 1) c.args.item.now) _ _ _ _ h (item_named _ _ _ c.args.item.now _ c.names_item.ensures (omega (arith, h.lies.longer)) (omega (arith, h.lies.to)) c.requires ∙ c.if-names_item.false)
