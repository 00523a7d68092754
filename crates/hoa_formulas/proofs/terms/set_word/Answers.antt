-- `terms::set_word` meets its contract.
use mathlib.Core.Path.{◌∙◌}
use native.Mathlib.Omega.{arith}
use Rattle.std.proofs.lemmas.Result.{err_from_is_err_and}
use Rattle.hoa_words.specs.Inside.{spelled}
use Rattle.hoa_formulas.proofs.AtomLaws.{is_inf, is_fin, fin_refused, is_no_set}
use Rattle.hoa_formulas.proofs.terms.set_word.Goals as goal

pub returns-then-spells : goal.returns-then-spells
returns-then-spells c =
    is_inf _ _ _ _ c.requires.0 (spelled _ _ _ _ _ c.spells.ensures (omega arith) c.requires.1 ∙ c.if-spells.true) c.set_in_brackets.result c.set_in_brackets.ensures

pub returns-in_err-read : goal.returns-in_err-read
returns-in_err-read c =
    let p = err_from_is_err_and c.from_residual.result c.from_residual.ensures.1 in
    rw (p.1, p.2)
    (fin_refused _ _ _ _ c.requires.0 (spelled _ _ _ _ _ c.spells.ensures (omega arith) c.requires.1 ∙ c.if-spells.false)
    (spelled _ _ _ _ _ c.spells-2.ensures (omega arith) c.requires.1 ∙ c.if-spells-2.true)
    _ c.in_err-read.ensures)

pub returns-then-spells-2 : goal.returns-then-spells-2
returns-then-spells-2 c =
    is_fin _ _ _ _ c.requires.0 (spelled _ _ _ _ _ c.spells.ensures (omega arith) c.requires.1 ∙ c.if-spells.false)
    (spelled _ _ _ _ _ c.spells-2.ensures (omega arith) c.requires.1 ∙ c.if-spells-2.true)
    _ c.complement.result c.in_ok-read.ensures c.complement.ensures

pub returns : goal.returns
returns c =
    is_no_set _ _ _ _ c.requires.0 (spelled _ _ _ _ _ c.spells.ensures (omega arith) c.requires.1 ∙ c.if-spells.false)
    (spelled _ _ _ _ _ c.spells-2.ensures (omega arith) c.requires.1 ∙ c.if-spells-2.false)
