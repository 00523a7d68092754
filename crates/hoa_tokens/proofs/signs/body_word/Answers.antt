-- `signs::body_word` meets its contract.
use mathlib.Core.Path.{sym, ◌∙◌}
use Rattle.hoa_tokens.proofs.Laws.{is_body, is_end, is_abort, is_no_word}
use Rattle.hoa_text.specs.Offsets.{byte_inside}
use Rattle.hoa_tokens.proofs.signs.body_word.Goals as goal

pub begins-requires : goal.begins-requires
begins-requires c = byte_inside c.args.text.now c.args.start 44 c.requires

pub returns-then-begins : goal.returns-then-begins
returns-then-begins c = is_body _ _ c.requires (sym c.begins.ensures ∙ c.if-begins.true)

pub begins-requires-2 : goal.begins-requires-2
begins-requires-2 c = byte_inside c.args.text.now c.args.start 44 c.requires

pub returns-then-begins-2 : goal.returns-then-begins-2
returns-then-begins-2 c = is_end _ _ c.requires (sym c.begins-2.ensures ∙ c.if-begins-2.true)

pub begins-requires-3 : goal.begins-requires-3
begins-requires-3 c = byte_inside c.args.text.now c.args.start 44 c.requires

pub returns-then-begins-3 : goal.returns-then-begins-3
returns-then-begins-3 c = is_abort _ _ c.requires (sym c.begins-3.ensures ∙ c.if-begins-3.true)

pub returns : goal.returns
returns c = is_no_word _ _ c.requires (sym c.begins.ensures ∙ c.if-begins.false) (sym c.begins-2.ensures ∙ c.if-begins-2.false) (sym c.begins-3.ensures ∙ c.if-begins-3.false)
