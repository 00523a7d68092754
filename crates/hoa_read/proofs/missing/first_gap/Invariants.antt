-- `missing::first_gap` meets its contract.
use Rattle.hoa_read.proofs.EndLaws.{Before}
use Rattle.hoa_read.proofs.missing.first_gap.Given as goal

abbrev pub invariant-loop-state : goal.invariant-loop-state
invariant-loop-state l = Before l.given l.letters l.state
