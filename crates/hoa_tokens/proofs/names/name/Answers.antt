-- `names::name` meets its contract.
use mathlib.Core.Path.{sym, ◌∙◌}
use native.Mathlib.Omega.{arith}
use Rattle.hoa_tokens.proofs.Laws.{word_inside, is_item_lem, is_word}
use Rattle.hoa_tokens.proofs.names.name.Goals as goal

pub overflow_add-start : goal.overflow_add-start
overflow_add-start c = omega (arith, word_inside c.args.text.now c.args.start c.requires)

pub word_end-end-requires : goal.word_end-end-requires
word_end-end-requires c = omega (arith, word_inside c.args.text.now c.args.start c.requires)

pub returns-then-byte_at-eq58 : goal.returns-then-byte_at-eq58
returns-then-byte_at-eq58 c = is_item_lem _ _ _ c.word_end-end.ensures c.requires (sym c.byte_at.ensures ∙ c.if-byte_at-eq58.true)

pub returns-else-byte_at-eq58 : goal.returns-else-byte_at-eq58
returns-else-byte_at-eq58 c = is_word _ _ _ c.word_end-end.ensures c.requires (λ e. c.if-byte_at-eq58.false (c.byte_at.ensures ∙ e))
