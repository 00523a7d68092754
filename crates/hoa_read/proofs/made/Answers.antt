-- `made` meets its contract.
use Rattle.hoa_read.proofs.EndLaws.{made_is}
use Rattle.hoa_read.proofs.made.Goals as goal

pub returns : goal.returns
returns c = made_is _ _
