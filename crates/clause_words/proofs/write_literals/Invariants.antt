-- `write_literals` meets its contract. The invariant: the text of the first i literals is written.
use Rattle.clause_words.proofs.Spelling.{Spelled}
use Rattle.clause_words.proofs.write_literals.Given as goal

abbrev pub invariant-loop-literal : goal.invariant-loop-literal
invariant-loop-literal l = Spelled l.clause l.initial.text l.at l.text l.literal-index l.to
