-- `search::forget` meets its contract.
use Rattle.compare_shortest.specs.Seen.{SeenAt}
use Rattle.compare_shortest.proofs.search.forget.Given as goal

abbrev pub invariant-loop-k : goal.invariant-loop-k
invariant-loop-k l = SeenAt l.seen l.places l.k l.count
