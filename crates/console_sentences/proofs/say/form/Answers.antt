-- `say::form` meets its contract.
use mathlib.Core.Path.{sym, ◌∙◌}
use Rattle.console_sentences.proofs.say.form.Goals as goal

pub returns-then-ends : goal.returns-then-ends
returns-then-ends c = rw (sym c.ends.ensures ∙ c.if-ends.true)

pub returns-then-digit : goal.returns-then-digit
returns-then-digit c = rw (sym c.ends.ensures ∙ c.if-ends.false, sym c.digit.ensures ∙ c.if-digit.true)

pub returns-then-stands : goal.returns-then-stands
returns-then-stands c = rw (sym c.ends.ensures ∙ c.if-ends.false, sym c.digit.ensures ∙ c.if-digit.false, sym c.stands.ensures ∙ c.if-stands.true)

pub returns : goal.returns
returns c = rw (sym c.ends.ensures ∙ c.if-ends.false, sym c.digit.ensures ∙ c.if-digit.false, sym c.stands.ensures ∙ c.if-stands.false)
