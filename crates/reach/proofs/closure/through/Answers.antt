-- `closure::through` meets its contract.
use native.Mathlib.Omega.{arith}
use Rattle.reach.proofs.Stores.{grown}
use Rattle.reach.proofs.Closures.{through_none, through_more}
use Rattle.reach.proofs.closure.through.Goals as goal

pub loop-row-init : goal.loop-row-init
loop-row-init c = through_none c.requires.1

pub loop-row-preserved : goal.loop-row-preserved
loop-row-preserved c =
    through_more c.loop-row.invariant (grown c.loop-row.rows c.loop-row.row-index _ _ _ c.loop-row.invariant.size (omega arith) (omega arith) c.joined.ensures) c.has.ensures
