-- `number` meets its contract.
use Rattle.hoa_write.proofs.Cases.{number_wrote}
use Rattle.hoa_write.proofs.parts.number.Goals as goal

pub returns : goal.returns
returns c = number_wrote c.args.n c.args.at c.requires.0 c.requires.1 c.write.ensures
