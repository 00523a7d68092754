-- `say::item` meets its contract.
use mathlib.Core.Path.{sym, ◌∙◌}
use borrow.Author.Tests.{eq-eqb, ne_eqb}
use Rattle.console_sentences.proofs.say.item.Goals as goal

pub returns-then-offset-eq0 : goal.returns-then-offset-eq0
returns-then-offset-eq0 c = rw (eq-eqb _ _ c.if-offset-eq0.true)

pub returns-then-stands : goal.returns-then-stands
returns-then-stands c = rw (ne_eqb _ _ c.if-offset-eq0.false, sym c.stands.ensures ∙ c.if-stands.true)

pub returns-then-stands-2 : goal.returns-then-stands-2
returns-then-stands-2 c = rw (ne_eqb _ _ c.if-offset-eq0.false, sym c.stands.ensures ∙ c.if-stands.false, sym c.stands-2.ensures ∙ c.if-stands-2.true)

pub returns : goal.returns
returns c = rw (ne_eqb _ _ c.if-offset-eq0.false, sym c.stands.ensures ∙ c.if-stands.false, sym c.stands-2.ensures ∙ c.if-stands-2.false)
