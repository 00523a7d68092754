-- `product` meets its contract: what is written is the first i factors.
use Rattle.meaning.specs.Counting.{each}
use Rattle.decimal.specs.Wrote.{Wrote}
use Rattle.hoa_write.specs.Pieces.{factor_piece}
use Rattle.hoa_write.proofs.condition.product.Given as goal

abbrev pub invariant-loop-i : goal.invariant-loop-i
invariant-loop-i l = Wrote l.initial.out l.at (each l.i (factor_piece l.x)) l.out l.next
