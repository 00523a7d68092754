-- `sets::below` meets its contract.
use native.Mathlib.Omega.{arith}
use Rattle.bits.specs.Members.{shift_some, below_low, below_all}
use Rattle.bits.proofs.sets.below.Goals as goal

pub overflow_cast-result : goal.overflow_cast-result
overflow_cast-result c = omega (arith, (below_all c.args.set c.args.k (omega arith) c.if-k-ge-MEMBERS.true).1)

pub returns-then-k-ge-MEMBERS : goal.returns-then-k-ge-MEMBERS
returns-then-k-ge-MEMBERS c = let both = below_all c.args.set c.args.k (omega arith) c.if-k-ge-MEMBERS.true in record { is = both.0; bounded = both.1 }

pub nonzero_rem-result : goal.nonzero_rem-result
nonzero_rem-result c = shift_some c.args.k c.if-k-ge-MEMBERS.false

pub overflow_cast-result-3 : goal.overflow_cast-result-3
overflow_cast-result-3 c = omega (arith, (below_low c.args.set c.args.k c.if-k-ge-MEMBERS.false).1)

pub returns : goal.returns
returns c = let both = below_low c.args.set c.args.k c.if-k-ge-MEMBERS.false in record { is = both.0; bounded = both.1 }
