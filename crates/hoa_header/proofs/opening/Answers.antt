-- `opening` meets its contract.
use mathlib.Core.Path.{ap, ◌∙◌}
use Rattle.std.specs.Option.{unwrap_or}
use Rattle.hoa_header.proofs.Opened.{opens}
use Rattle.hoa_header.proofs.opening.Goals as goal

pub returns : goal.returns
returns c =
    opens c.args.items c.args.at c.args.end _ c.in_ok-states.ensures.ok_part _ c.in_ok-start.ensures.ok_part _ c.in_ok-accepting.ensures.ok_part c.if-start-states.false _ (c.unwrap_or-count.ensures ∙ ap (unwrap_or c.args.items.names) c.none.ensures) _ c.empty.ensures
