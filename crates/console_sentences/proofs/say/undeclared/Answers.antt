-- `say::undeclared` meets its contract.
use borrow.Author.Tests.{eq-eqb, ne_eqb}
use Rattle.console_sentences.proofs.say.undeclared.Goals as goal

pub returns-then-offset-eq0 : goal.returns-then-offset-eq0
returns-then-offset-eq0 c = rw (eq-eqb _ _ c.if-offset-eq0.true)

pub returns : goal.returns
returns c = rw (ne_eqb _ _ c.if-offset-eq0.false)
