-- `quoted_names` meets its contract: what is written is the first i names.
use Rattle.meaning.specs.Counting.{each}
use Rattle.decimal.specs.Wrote.{Wrote}
use Rattle.hoa_text.specs.Written.{quoted_name}
use Rattle.hoa_write.proofs.lines.quoted_names.Given as goal

abbrev pub invariant-loop-i : goal.invariant-loop-i
invariant-loop-i l = Wrote l.initial.out l.at (each l.i (quoted_name l.a)) l.out l.next
