-- `own_sets` meets its contract.
use mathlib.Core.Path.{ap}
use lib.Dec.{leb}
use Rattle.acceptance.proofs.own_sets.Goals as goal

pub returns : goal.returns
returns c = ap (leb c.args.acceptance) c.all_true.ensures
