-- `sets::lowest` meets its contract.
use mathlib.Core.Path.{sym, ◌∙◌}
use native.Mathlib.Omega.{arith}
use borrow.Author.Count.{below_more}
use Rattle.bits.proofs.sets.lowest.Goals as goal

pub returns-then-has : goal.returns-then-has
returns-then-has c = record { to = omega arith; lower = c.loop-i.invariant; found = λ h. sym c.has.ensures ∙ c.if-has.true }

pub loop-i-preserved : goal.loop-i-preserved
loop-i-preserved c = below_more _ _ c.loop-i.invariant (sym c.has.ensures ∙ c.if-has.false)

pub returns : goal.returns
returns c = record { to = omega arith; lower = λ j h. c.loop-i.invariant j (omega arith); found = λ h. absurd (omega arith) }
