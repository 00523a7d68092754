-- `cells::fill` meets its contract.
use Rattle.decode.proofs.Filling.{filled_more}
use Rattle.decode.proofs.cells.fill.Goals as goal

pub loop-i-preserved : goal.loop-i-preserved
loop-i-preserved c = filled_more _ c.in-Some.cell c.loop-i.invariant c.loop-i-test.true c.in-Some.ensures
