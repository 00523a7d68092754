-- `search::explore` meets its contract.
use Prim.Native.Nat.{◌-◌}
use Rattle.std.specs.Option.{unwrap_or}
use Rattle.compare_shortest.specs.Graph.{at}
use Rattle.compare_shortest.specs.Sizes.{pair_count}
use Rattle.compare_shortest.specs.Packing.{node_of}
use Rattle.compare_shortest.proofs.Exploring.{Exploring}
use Rattle.compare_shortest.proofs.search.explore.Given as goal

abbrev pub invariant-loop-here : goal.invariant-loop-here
invariant-loop-here l =
    Exploring l.table l.hits l.seen l.places l.letters (node_of (at l.initial.places 0)) (unwrap_or l.pair pair_count) l.bound l.n l.here

abbrev pub decreases-loop-here : goal.decreases-loop-here
decreases-loop-here l = 65537 - l.here
