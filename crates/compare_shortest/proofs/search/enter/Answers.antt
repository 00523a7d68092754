-- `search::enter` meets its contract.
use mathlib.Core.Path.{refl, ap}
use lib.ListN.{set}
use Rattle.compare_shortest.proofs.search.enter.Goals as goal

pub returns : goal.returns
returns c = (refl, ap (set c.args.places.now c.args.n) c.place.ensures, refl)
