-- `members` meets its contract: what is written is the first i pieces.
use Rattle.meaning.specs.Counting.{each}
use Rattle.decimal.specs.Wrote.{Wrote}
use Rattle.hoa_write.specs.Pieces.{mark_piece}
use Rattle.hoa_write.proofs.edges.members.Given as goal

abbrev pub invariant-loop-i : goal.invariant-loop-i
invariant-loop-i l = Wrote l.initial.out l.at (each l.i (mark_piece l.m)) l.out l.next
