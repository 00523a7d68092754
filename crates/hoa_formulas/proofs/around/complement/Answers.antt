-- `around::complement` meets its contract.
use Rattle.hoa_formulas.proofs.Laws.{denies_read}
use Rattle.hoa_formulas.proofs.around.complement.Goals as goal

pub returns : goal.returns
returns c = denies_read c.args.read
