-- `ended` meets its contract.
use Rattle.hoa_read.proofs.EndLaws.{ended_over, ended_broken, ended_token}
use Rattle.hoa_read.proofs.ended.Goals as goal

pub returns-in-Over : goal.returns-in-Over
returns-in-Over c = ended_over _ _ _ _ _ c.in-Over.ensures c.whole.result c.whole.ensures

pub returns-in-Broken : goal.returns-in-Broken
returns-in-Broken c = ended_broken _ _ _ _ _ _ c.in-Broken.ensures

pub returns-in_default : goal.returns-in_default
returns-in_default c = ended_token _ _ _ _ _ c.next_token.ensures c.in_default.not-Over c.in_default.not-Broken _ c.offset.ensures
