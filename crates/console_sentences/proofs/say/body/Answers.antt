-- `say::body` meets its contract.
use mathlib.Core.Path.{sym, ◌∙◌}
use Rattle.console_sentences.proofs.say.body.Goals as goal

pub returns-then-ends : goal.returns-then-ends
returns-then-ends c = rw (sym c.ends.ensures ∙ c.if-ends.true)

pub returns : goal.returns
returns c = rw (sym c.ends.ensures ∙ c.if-ends.false)
