-- `leading_digit` meets its contract.
use Rattle.decimal.proofs.Laws.{Taken}
use Rattle.decimal.proofs.leading_digit.Given as goal

abbrev pub invariant-loop-turn : goal.invariant-loop-turn
invariant-loop-turn l = Taken l.n l.power l.turn l.digit l.rest
