-- `product::fill` meets its contract.
use Rattle.compare_shortest.specs.ProductTables.{Tables}
use Rattle.compare_shortest.proofs.product.fill.Given as goal

abbrev pub invariant-loop-i : goal.invariant-loop-i
invariant-loop-i l = Tables l.next_a l.marks_a l.next_b l.marks_b l.plain l.table l.i
