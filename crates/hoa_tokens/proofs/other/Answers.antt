-- `other` meets its contract.
use mathlib.Core.Path.{sym, ◌∙◌}
use Rattle.hoa_tokens.proofs.Laws.{opens_name, is_sign_lem, is_none}
use Rattle.hoa_tokens.proofs.other.Goals as goal

pub name-requires : goal.name-requires
name-requires c = opens_name _ _ _ c.requires (sym c.opens_word.ensures ∙ c.if-opens_word.true)

pub returns-then-opens_sign : goal.returns-then-opens_sign
returns-then-opens_sign c = is_sign_lem _ _ _ c.requires (sym c.opens_sign.ensures ∙ c.if-opens_sign.true)

pub returns : goal.returns
returns c = is_none _ _ _ c.requires (sym c.opens_word.ensures ∙ c.if-opens_word.false) (sym c.opens_sign.ensures ∙ c.if-opens_sign.false)
