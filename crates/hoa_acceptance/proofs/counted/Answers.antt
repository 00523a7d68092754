-- `counted` meets its contract.
use Rattle.hoa_acceptance.proofs.AcceptanceLaws.{condition_read}
use Rattle.hoa_acceptance.proofs.counted.Goals as goal

pub returns : goal.returns
returns c = condition_read c.args.text.now c.args.at c.args.sets c.requires _ _ _ c.in_ok-read.ensures c.own.ensures
