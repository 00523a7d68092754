-- `closure::close` meets its contract.
use native.Mathlib.Omega.{arith}
use Rattle.reach.proofs.Closures.{closed_none, closed_more}
use Rattle.reach.proofs.closure.close.Goals as goal

pub loop-k-init : goal.loop-k-init
loop-k-init c = closed_none c.args.states c.requires.1

pub through-requires : goal.through-requires
through-requires c = (omega arith, c.loop-k.invariant.size)

pub loop-k-preserved : goal.loop-k-preserved
loop-k-preserved c = closed_more c.requires.0 (omega arith) c.loop-k.invariant c.through.ensures
