-- `sets::has` meets its contract.
use mathlib.Core.Path.{sym}
use native.Mathlib.Omega.{arith}
use Rattle.meaning.specs.BitSetLaws.{has_test}
use Rattle.bits.specs.SetLaws.{has_past}
use Rattle.bits.proofs.sets.has.Goals as goal

pub returns-then-i-ge-MEMBERS : goal.returns-then-i-ge-MEMBERS
returns-then-i-ge-MEMBERS c = sym (has_past 16 c.args.set c.args.i (omega arith) (omega (arith, c.if-i-ge-MEMBERS.true)))

pub returns : goal.returns
returns c = has_test c.args.set c.args.i
