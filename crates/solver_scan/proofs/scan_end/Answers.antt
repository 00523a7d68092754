-- `scan_end` meets its contract.
use Rattle.solver_scan.specs.Places.{end_placed}
use Rattle.solver_scan.proofs.scan_end.Goals as goal

pub returns : goal.returns
returns c = rw (c.end_place.ensures, c.spelt.ensures, c.judged-fine.ensures) (end_placed _)
