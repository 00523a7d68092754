-- `states` meets its contract: what is written is the lines of the first q states.
use Rattle.meaning.specs.Counting.{each}
use Rattle.decimal.specs.Wrote.{Wrote}
use Rattle.hoa_text.specs.Written.{state_lines}
use Rattle.hoa_write.proofs.states.Given as goal

abbrev pub invariant-loop-q : goal.invariant-loop-q
invariant-loop-q l = Wrote l.initial.out 0 (each l.q (state_lines l.a)) l.out l.at
