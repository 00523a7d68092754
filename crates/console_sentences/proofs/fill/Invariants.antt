-- `fill` meets its contract.
use Rattle.console_sentences.proofs.Filling.{Going}
use Rattle.console_sentences.proofs.fill.Given as goal

abbrev pub invariant-loop-b : goal.invariant-loop-b
invariant-loop-b l = Going l.code l.place l.pattern l.initial.out l.b-index l.out l.at
