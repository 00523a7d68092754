-- `scan_byte` meets its contract.
use native.Mathlib.Omega.{arith}
use Rattle.solver_scan.proofs.Laws.{stopped, space_read, tab_read, line_feed_read, other_read}
use Rattle.solver_scan.proofs.scan_byte.Goals as goal

pub returns-then-s-eq4294967295 : goal.returns-then-s-eq4294967295
returns-then-s-eq4294967295 c = stopped _ _ _ c.if-s-eq4294967295.true c.at_limit.ensures

pub returns-in-32 : goal.returns-in-32
returns-in-32 c = space_read _ _ _ c.if-s-eq4294967295.false _ c.taken.ensures c.after_blank.ensures c.in-32.is

pub returns-in-9 : goal.returns-in-9
returns-in-9 c = tab_read _ _ _ c.if-s-eq4294967295.false _ c.taken-in-9.ensures c.after_blank-in-9.ensures c.in-9.is

pub returns-in-10 : goal.returns-in-10
returns-in-10 c = line_feed_read _ _ _ c.if-s-eq4294967295.false _ c.taken-in-10.ensures c.after_line_feed.ensures c.in-10.is

pub returns-in_default : goal.returns-in_default
returns-in_default c = other_read c.args.s _ c.args.b c.if-s-eq4294967295.false (omega arith) c.other_byte.ensures (λ e. omega arith) (λ e. omega arith) (λ e. omega arith)
