-- `sets::single` meets its contract.
use native.Mathlib.Omega.{arith}
use Rattle.bits.specs.SetLaws.{single_past, shifted}
use Rattle.bits.proofs.sets.single.Goals as goal

pub returns-then-i-ge-MEMBERS : goal.returns-then-i-ge-MEMBERS
returns-then-i-ge-MEMBERS c = single_past c.args.i (omega arith)

pub returns : goal.returns
returns c = shifted c.args.i (omega arith)
