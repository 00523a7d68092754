-- `firsts::fill` meets its contract.
use Rattle.clause_variables.proofs.FirstLaws.{Counted}
use Rattle.clause_variables.proofs.firsts.fill.Given as goal

abbrev pub invariant-loop-v : goal.invariant-loop-v
invariant-loop-v l = Counted l.row l.numbers l.next l.v
