-- `terms::constant_word` meets its contract.
use mathlib.Core.Path.{◌∙◌}
use native.Mathlib.Omega.{arith}
use Rattle.hoa_words.specs.Inside.{spelled}
use Rattle.hoa_formulas.proofs.AtomLaws.{is_true, is_false, is_neither}
use Rattle.hoa_formulas.proofs.terms.constant_word.Goals as goal

pub returns-then-spells : goal.returns-then-spells
returns-then-spells c =
    is_true _ _ _ c.requires.0 c.requires.1 (spelled _ _ _ _ _ c.spells.ensures (omega arith) c.requires.1 ∙ c.if-spells.true)

pub returns-then-spells-2 : goal.returns-then-spells-2
returns-then-spells-2 c =
    is_false _ _ _ c.requires.0 c.requires.1 (spelled _ _ _ _ _ c.spells.ensures (omega arith) c.requires.1 ∙ c.if-spells.false) (spelled _ _ _ _ _ c.spells-2.ensures (omega arith) c.requires.1 ∙ c.if-spells-2.true)

pub returns : goal.returns
returns c =
    is_neither _ _ _ c.requires.0 c.requires.1 (spelled _ _ _ _ _ c.spells.ensures (omega arith) c.requires.1 ∙ c.if-spells.false) (spelled _ _ _ _ _ c.spells-2.ensures (omega arith) c.requires.1 ∙ c.if-spells-2.false)
