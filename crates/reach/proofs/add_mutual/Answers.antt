-- `add_mutual` meets its contract.
use mathlib.Core.Path.{ap₂}
use mathlib.Core.Bool.{◌&&◌}
use Prim.Native.Nat.{◌/◌}
use native.Mathlib.Omega.{arith}
use Rattle.reach.proofs.Stores.{grown}
use Rattle.reach.proofs.Pairs.{mutual_none, mutual_more}
use Rattle.reach.proofs.add_mutual.Goals as goal

pub loop-i-init : goal.loop-i-init
loop-i-init c = mutual_none c.requires.1

pub loop-i-preserved : goal.loop-i-preserved
loop-i-preserved c =
    let both = ap₂ ◌&&◌ c.has.ensures c.has-in-loop-i.ensures in
    mutual_more c.loop-i.invariant (grown c.loop-i.rows (c.loop-i.i / 16) _ _ _ c.loop-i.invariant.size (omega arith) (omega arith) c.joined.ensures) c.single.ensures both
