-- `next_line` meets its contract.
use mathlib.Core.Path.{sym}
use native.Mathlib.Omega.{arith}
use lib.Seq.{length-take-le}
use Rattle.clause_text.proofs.Batches.{hands_clause, next_written, next_long}
use Rattle.clause_text.proofs.batch.next_line.Goals as goal

pub next_clause-next-requires : goal.next_clause-next-requires
next_clause-next-requires c = record { tables = c.requires.tables; extent_of = (c.requires.extent_of, omega arith) }

pub slice_bounds-clause-end : goal.slice_bounds-clause-end
slice_bounds-clause-end c = (hands_clause _ _ _ _ c.in-Some.is c.next_clause-next.ensures).room

pub slice_bounds-write_line-end : goal.slice_bounds-write_line-end
slice_bounds-write_line-end c = sym (length-take-le _ _ (hands_clause _ _ _ _ c.in-Some.is c.next_clause-next.ensures).room)

pub returns-then-end-at : goal.returns-then-end-at
returns-then-end-at c = next_long (hands_clause _ _ _ _ c.in-Some.is c.next_clause-next.ensures) c.next_clause-next.auto.out c.args.from c.write_line-end.ensures c.if-end-at.true

pub returns : goal.returns
returns c = next_written (hands_clause _ _ _ _ c.in-Some.is c.next_clause-next.ensures) c.next_clause-next.auto.out c.args.from c.write_line-end.ensures c.if-end-at.false
