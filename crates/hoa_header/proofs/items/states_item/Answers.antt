-- `items::states_item` meets its contract.
use mathlib.Core.Path.{sym, ◌∙◌}
use Rattle.hoa_header.proofs.Kept.{states_read}
use Rattle.hoa_header.proofs.items.states_item.Goals as goal

pub returns-in-Number : goal.returns-in-Number
returns-in-Number c =
    states_read c.args.text.now c.args.name c.args.at c.args.items (sym c.is_some.ensures ∙ c.if-is_some.false) _ _ _ c.in-Number.ensures c.states_given.result c.states_given.ensures
