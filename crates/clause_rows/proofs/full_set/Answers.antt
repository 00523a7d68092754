-- `full_set` meets its contract.
use native.Mathlib.Omega.{arith}
use Rattle.bits.specs.Members.{shift_some}
use Rattle.clause_rows.proofs.Laws.{full_low, full_all}
use Rattle.clause_rows.proofs.full_set.Goals as goal

pub overflow_sub-result : goal.overflow_sub-result
overflow_sub-result c = omega (arith, shift_some c.args.states c.if-states-lt-STATES.true)

pub returns-then-states-lt-STATES : goal.returns-then-states-lt-STATES
returns-then-states-lt-STATES c = full_low c.args.states c.if-states-lt-STATES.true

pub returns-else-states-lt-STATES : goal.returns-else-states-lt-STATES
returns-else-states-lt-STATES c = full_all c.args.states c.if-states-lt-STATES.false
