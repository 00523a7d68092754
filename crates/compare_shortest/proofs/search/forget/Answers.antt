-- `search::forget` meets its contract.
use native.Mathlib.Omega.{arith}
use Rattle.compare_shortest.specs.Seen.{forget_one, forgotten}
use Rattle.compare_shortest.proofs.search.forget.Goals as goal

pub loop-k-preserved : goal.loop-k-preserved
loop-k-preserved c = forget_one c.loop-k.invariant c.node-node.result c.node-node.ensures

pub returns : goal.returns
returns c = forgotten c.loop-k.invariant (omega arith)
