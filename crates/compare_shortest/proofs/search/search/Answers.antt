-- `search::search` meets its contract.
use mathlib.Core.Path.{◌∙◌}
use native.Mathlib.Omega.{arith}
use Rattle.compare_shortest.specs.State.{node_root}
use Rattle.compare_shortest.specs.Explored.{searched, searched_ready}
use Rattle.compare_shortest.proofs.search.search.Goals as goal

pub returns : goal.returns
returns c = let X = searched (node_root c.requires c.args.root (omega arith)) c.explore-stop.ensures.explored in
    record {
      searched = X;
      within = c.explore-stop.ensures.within;
      ready = searched_ready X c.requires.hits_size (c.forget.auto.seen ∙ c.explore-stop.ensures.explored.state.seen_size) c.forget.ensures;
    }
