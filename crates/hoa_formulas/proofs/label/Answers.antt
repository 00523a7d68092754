-- `label` meets its contract.
use Rattle.hoa_text.specs.Formulas.{deepest}
use Rattle.hoa_formulas.proofs.label.Goals as goal

pub returns : goal.returns
unfolding deepest
returns c = c.or.ensures
