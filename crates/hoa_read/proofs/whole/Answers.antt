-- `whole` meets its contract.
use Rattle.hoa_read.proofs.EndLaws.{whole_no_body, whole_gap, whole_made}
use Rattle.hoa_read.proofs.whole.Goals as goal

pub returns-then-unnamed-states : goal.returns-then-unnamed-states
returns-then-unnamed-states c = whole_no_body c.args.opened c.args.table _ c.requires _ c.lowest-unnamed.ensures c.if-unnamed-states.true

pub returns-in-Some : goal.returns-in-Some
returns-in-Some c =
    whole_gap c.args.opened c.args.table _ c.requires _ c.lowest-unnamed.ensures _ c.power_of_two.ensures.is c.if-unnamed-states.false _ c.in-Some.ensures

pub returns-in-None : goal.returns-in-None
returns-in-None c =
    whole_made c.args.opened c.args.table _ c.requires _ c.lowest-unnamed.ensures _ c.power_of_two.ensures.is c.if-unnamed-states.false c.in-None.ensures c.made.result c.made.ensures
