-- `sum` meets its contract: what is written is the summands below x.
use Rattle.meaning.specs.Counting.{each}
use Rattle.decimal.specs.Wrote.{Wrote}
use Rattle.hoa_write.specs.Pieces.{summand_piece}
use Rattle.hoa_write.proofs.condition.sum.Given as goal

abbrev pub invariant-loop-x : goal.invariant-loop-x
invariant-loop-x l = Wrote l.initial.out l.at (each l.x (summand_piece l.sets l.acceptance)) l.out l.next
