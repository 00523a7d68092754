-- `gaps::after` meets its contract.
use Rattle.clause_list.specs.Stretches.{after_third, after_fourth}
use Rattle.clause_list.proofs.gaps.after.Goals as goal

pub returns-then-y-g : goal.returns-then-y-g
returns-then-y-g c = after_third c.requires.2 c.args.destinations.now c.if-x-before.false c.if-y-g.true c.third_stretch.ensures c.past.ensures

pub returns : goal.returns
returns c =
    after_fourth c.requires.2 c.args.destinations.now c.requires.3 c.if-x-before.false c.if-y-g.false c.fourth_stretch.ensures c.past-2.ensures
