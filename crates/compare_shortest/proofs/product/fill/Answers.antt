-- `product::fill` meets its contract.
use native.Mathlib.Omega.{arith}
use Rattle.compare_shortest.specs.ProductTables.{tables_more, tables_all}
use Rattle.compare_shortest.proofs.product.fill.Goals as goal

pub loop-i-preserved : goal.loop-i-preserved
loop-i-preserved c = tables_more c.loop-i.invariant (omega arith) c.pair-next.ensures.0 c.pair-marks.ensures.0

pub returns : goal.returns
returns c = tables_all c.loop-i.invariant (omega arith) (omega arith)
