-- `search::expand` meets its contract.
use Rattle.compare_shortest.specs.Graph.{at}
use Rattle.compare_shortest.specs.Packing.{node_of}
use Rattle.compare_shortest.proofs.Expanding.{Expanding}
use Rattle.compare_shortest.proofs.search.expand.Given as goal

abbrev pub invariant-loop-letter : goal.invariant-loop-letter
invariant-loop-letter l =
    Expanding l.table l.initial.places l.seen l.places l.letters (node_of (at l.initial.places 0)) l.count l.n l.here l.letter
