-- `closest::loop_length` meets its contract.
use Rattle.std.proofs.Common.{refl, arith}
use Rattle.std.proofs.lemmas.Option.{MatchOption-at_some}
use Rattle.compare_shortest.specs.Explored.{hit_some, hit_none}
use Rattle.compare_shortest.proofs.ClosestLoop.{length_none, length_found, loop_some, loop_small}
use Rattle.compare_shortest.proofs.closest.loop_length.Goals as goal

pub returns-in_err-hit-clause-loop_length : goal.returns-in_err-hit-clause-loop_length
returns-in_err-hit-clause-loop_length c = rw c.from_residual.ensures (length_none (hit_none c.in_err-hit.was c.search-stop.ensures.searched) refl)

pub returns-clause-loop_length : goal.returns-clause-loop_length
returns-clause-loop_length c =
    let X = hit_some c.in_ok-hit.was c.search-stop.ensures.searched in
    length_found X (MatchOption-at_some _ _ _ c.in_ok-hit.was c.search-stop.ensures.within) c.depth.ensures

pub returns-clause-some : goal.returns-clause-some
returns-clause-some c =
    let X = hit_some c.in_ok-hit.was c.search-stop.ensures.searched in
    let g = MatchOption-at_some _ _ _ c.in_ok-hit.was c.search-stop.ensures.within in
    (omega (arith, loop_some X g, c.depth.ensures), omega (arith, loop_small X g, c.depth.ensures))
