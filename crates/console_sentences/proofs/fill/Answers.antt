-- `fill` meets its contract.
use Rattle.console_sentences.proofs.Filling.{going_first, going_on, all_filled}
use Rattle.console_sentences.proofs.fill.Goals as goal

pub loop-b-init : goal.loop-b-init
loop-b-init c = going_first c.args.code c.args.place c.args.pattern.now c.args.out.now c.requires

pub loop-b-preserved : goal.loop-b-preserved
loop-b-preserved c = going_on c.args.code c.args.place c.args.pattern.now c.args.out.now c.loop-b.b-index c.loop-b.invariant c.loop-b-test.true c.show-at.ensures

pub returns : goal.returns
returns c = all_filled c.args.code c.args.place c.args.pattern.now c.args.out.now c.loop-b.b-index c.loop-b.invariant c.loop-b-test.false
