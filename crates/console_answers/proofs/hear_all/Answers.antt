-- `hear_all` meets its contract, and ends: fewer bytes can come with each piece.
use Rattle.std.proofs.Common.{ap}
use Rattle.console_answers.specs.SoFar.{more}
use Rattle.console_answers.proofs.Further.{heard_first, heard_next, ahead_falls}
use Rattle.console_answers.proofs.hear_all.Goals as goal

pub loop-heard-init : goal.loop-heard-init
loop-heard-init g c = heard_first _ c.first-2.ensures c.fresh.ensures c.first.ensures c.hear-heard.ensures

pub loop-heard-smaller : goal.loop-heard-smaller
loop-heard-smaller g c = ahead_falls (ap more c.in-More.is) c.loop-heard.invariant c.hear_some-heard.ensures

pub loop-heard-preserved : goal.loop-heard-preserved
loop-heard-preserved g c = heard_next (ap more c.in-More.is) c.loop-heard.invariant c.hear_some-heard.ensures
