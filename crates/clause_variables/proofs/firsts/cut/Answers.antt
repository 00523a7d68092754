-- `firsts::cut` meets its contract.
use Rattle.clause_variables.proofs.FirstLaws.{cut_low}
use Rattle.clause_variables.proofs.firsts.cut.Goals as goal

pub returns : goal.returns
returns c = cut_low _ _ c.if-states-ge-STATES.false
