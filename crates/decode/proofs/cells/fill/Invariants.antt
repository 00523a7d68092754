-- `cells::fill` meets its contract.
use Rattle.decode.specs.Cells.{table_by, Filled}
use Rattle.decode.proofs.cells.fill.Given as goal

abbrev pub invariant-loop-i : goal.invariant-loop-i
invariant-loop-i l = Filled (table_by l.z l.named) l.destinations l.marks l.i
