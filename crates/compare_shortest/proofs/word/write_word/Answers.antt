-- `word::write_word` meets its contract.
use Rattle.std.proofs.Common.{arith, length-set}
use Rattle.compare_shortest.specs.ReadBack.{read_one}
use Rattle.compare_shortest.proofs.word.write_word.Goals as goal

pub loop-left-preserved : goal.loop-left-preserved
loop-left-preserved c = (read_one c.loop-left.left c.loop-left.k c.loop-left.invariant.0 (omega arith) c.edge-edge.ensures, simp length-set c.loop-left.invariant.1)
