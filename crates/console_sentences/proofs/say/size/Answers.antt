-- `say::size` meets its contract.
use mathlib.Core.Path.{sym, ◌∙◌}
use borrow.Author.Tests.{eq-eqb, ne_eqb}
use Rattle.console_sentences.proofs.say.size.Goals as goal

pub returns-then-offset-eq65536 : goal.returns-then-offset-eq65536
returns-then-offset-eq65536 c = rw (eq-eqb _ _ c.if-offset-eq65536.true)

pub returns-then-digit : goal.returns-then-digit
returns-then-digit c = rw (ne_eqb _ _ c.if-offset-eq65536.false, sym c.digit.ensures ∙ c.if-digit.true)

pub returns-then-stands : goal.returns-then-stands
returns-then-stands c = rw (ne_eqb _ _ c.if-offset-eq65536.false, sym c.digit.ensures ∙ c.if-digit.false, sym c.stands.ensures ∙ c.if-stands.true)

pub returns : goal.returns
returns c = rw (ne_eqb _ _ c.if-offset-eq65536.false, sym c.digit.ensures ∙ c.if-digit.false, sym c.stands.ensures ∙ c.if-stands.false)
