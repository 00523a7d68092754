-- `passing::past` meets its contract.
use Rattle.std.proofs.Common.{arith, refl}
use Rattle.clause_order.proofs.Widths.{sizes_out, fitting_in, width_some, no_past, first_past, a_past}
use Rattle.clause_order.proofs.passing.past.Goals as goal

pub returns-then-own-other : goal.returns-then-own-other
returns-then-own-other c = no_past (λ (f, s, l). sizes_out _ _ _ c.if-own-other.true (fitting_in f l))

pub returns-then-width-eq0 : goal.returns-then-width-eq0
returns-then-width-eq0 c = no_past (λ (f, s, l). omega (arith, c.if-width-eq0.true, width_some f s))

pub returns-then-first : goal.returns-then-first
returns-then-first c = first_past c.if-first.true refl

pub returns : goal.returns
returns c = a_past refl
