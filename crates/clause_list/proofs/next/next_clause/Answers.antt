-- `next_clause` meets its contract. The invariant: nothing is written yet, and what comes next from x on comes next from the beginning.
use Rattle.clause_list.proofs.Nexts.{waiting_more, waiting_here, waiting_end}
use native.Mathlib.Omega.{arith}
use Rattle.clause_list.proofs.next.next_clause.Goals as goal

pub returns : goal.returns
returns c = waiting_end c.requires.extent_of.0 c.loop-x.invariant (omega arith)

pub returns-in-Some : goal.returns-in-Some
returns-in-Some c = waiting_here c.requires.extent_of.0 c.loop-x.invariant c.loop-x-test.true c.in-Some.ensures

pub loop-x-preserved : goal.loop-x-preserved
loop-x-preserved c = waiting_more c.requires.extent_of.0 c.loop-x.invariant c.loop-x-test.true c.in_default.ensures c.requires.tables.0 c.after-x.ensures
