-- `search::first_hit` meets its contract.
use Rattle.compare_shortest.specs.FirstHit.{Missed}
use Rattle.compare_shortest.proofs.search.first_hit.Given as goal

abbrev pub invariant-loop-k : goal.invariant-loop-k
invariant-loop-k l = Missed l.places l.hits l.pair l.start l.end l.k
