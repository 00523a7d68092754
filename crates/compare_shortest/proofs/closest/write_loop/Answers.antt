-- `closest::write_loop` meets its contract.
use Rattle.std.proofs.Common.{refl, arith}
use Rattle.std.proofs.lemmas.Option.{MatchOption-at_some}
use Rattle.compare_shortest.specs.Explored.{hit_some, hit_none}
use Rattle.compare_shortest.proofs.ClosestLoop.{loop_chain, loop_some, loop_fits, written_none, written_found}
use Rattle.compare_shortest.proofs.closest.write_loop.Goals as goal

pub returns-in_err-hit-clause-written : goal.returns-in_err-hit-clause-written
returns-in_err-hit-clause-written c = rw c.from_residual.ensures (written_none (hit_none c.in_err-hit.was c.search-stop.ensures.searched) refl refl)

pub write_word-requires : goal.write_word-requires
write_word-requires c =
    let X = hit_some c.in_ok-hit.was c.search-stop.ensures.searched in
    let g = MatchOption-at_some _ _ _ c.in_ok-hit.was c.search-stop.ensures.within in
    (loop_chain X g c.depth-depth.result c.depth-depth.ensures, omega (arith, loop_fits X g, c.depth-depth.ensures))

pub returns-clause-written : goal.returns-clause-written
returns-clause-written c =
    written_found (hit_some c.in_ok-hit.was c.search-stop.ensures.searched) (MatchOption-at_some _ _ _ c.in_ok-hit.was c.search-stop.ensures.within) c.depth-depth.ensures refl c.write_word.ensures

pub returns-clause-some : goal.returns-clause-some
returns-clause-some c =
    omega (arith, loop_some (hit_some c.in_ok-hit.was c.search-stop.ensures.searched) (MatchOption-at_some _ _ _ c.in_ok-hit.was c.search-stop.ensures.within), c.depth-depth.ensures)
