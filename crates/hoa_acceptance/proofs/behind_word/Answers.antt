-- `behind_word` meets its contract.
use mathlib.Core.Path.{◌∙◌}
use native.Mathlib.Omega.{arith}
use Rattle.hoa_words.specs.Inside.{spelled}
use Rattle.hoa_acceptance.proofs.Tokens.{word_stands, word_differs}
use Rattle.hoa_acceptance.proofs.behind_word.Goals as goal

pub returns-then-spells : goal.returns-then-spells
returns-then-spells c =
    let h = c.in-Word.ensures in
    word_stands c.args.word.now _ _ _ _ h (spelled _ _ _ c.args.word.now _ c.spells.ensures (omega (arith, h.lies.longer)) h.lies.to ∙ c.if-spells.true)

pub returns-else-spells : goal.returns-else-spells
returns-else-spells c =
    let h = c.in-Word.ensures in
    word_differs c.args.word.now _ _ _ _ h (spelled _ _ _ c.args.word.now _ c.spells.ensures (omega (arith, h.lies.longer)) h.lies.to ∙ c.if-spells.false)
