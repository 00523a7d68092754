-- `items::start_item` meets its contract.
use mathlib.Core.Path.{sym, ◌∙◌}
use Rattle.hoa_header.proofs.Kept.{start_kept}
use Rattle.hoa_header.proofs.items.start_item.Goals as goal

pub returns-in-Number : goal.returns-in-Number
returns-in-Number c =
    start_kept c.args.text.now c.args.name c.args.at c.args.items (sym c.is_some.ensures ∙ c.if-is_some.false) _ _ _ c.in-Number.ensures
