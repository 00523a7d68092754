-- `items::states_given` meets its contract.
use Rattle.hoa_header.proofs.Kept.{states_kept}
use Rattle.hoa_header.proofs.items.states_given.Goals as goal

pub returns : goal.returns
returns c =
    states_kept c.args.at c.args.value c.args.end c.args.items c.if-value-eq0.false c.if-value-gt-STATES.false
