-- `disagree` meets its contract.
use mathlib.Core.Path.{ap₂}
use mathlib.Core.Bool.{xor}
use Rattle.clause_list.proofs.position.disagree.Goals as goal

pub returns : goal.returns
unfolding xor
returns c = ap₂ xor c.has.ensures c.has-2.ensures
