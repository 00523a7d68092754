-- `names_item` meets its contract.
use mathlib.Core.Path.{ap, ◌∙◌}
use native.Mathlib.Omega.{arith}
use borrow.Author.Tests.{lt-ltb}
use Prim.Native.Nat.{◌-◌}
use lib.ListN.{length}
use Rattle.hoa_words.specs.Parts.{spells, names_item}
use Rattle.hoa_words.proofs.Laws.{part_is}
use Rattle.hoa_words.proofs.names_item.Goals as goal

pub returns-then-item-eq0 : goal.returns-then-item-eq0
unfolding names_item
returns-then-item-eq0 c = rw c.if-item-eq0.true

pub returns : goal.returns
unfolding names_item
returns c =
    rw (lt-ltb 0 (length c.args.item.now) (omega arith)) (c.spells.ensures ∙ ap (spells c.args.text.now c.args.start c.args.end) (part_is 0 (length c.args.item.now - 1) c.args.item.now (omega arith)))
