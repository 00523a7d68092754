-- `product::pair` meets its contract.
-- the two entries
use mathlib.Core.Path.{refl}
use Rattle.compare_shortest.specs.ProductTables.{pair_lt}
use Rattle.compare_shortest.proofs.product.pair.Goals as goal

pub returns : goal.returns
returns c = (refl, pair_lt c.args.first.now c.args.second.now c.requires.1 c.requires.2 c.args.i c.requires.0)
