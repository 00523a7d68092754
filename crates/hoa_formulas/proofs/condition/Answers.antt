-- `condition` meets its contract.
use Rattle.hoa_text.specs.Formulas.{deepest}
use Rattle.hoa_formulas.proofs.condition.Goals as goal

pub returns : goal.returns
unfolding deepest
returns c = c.or.ensures
