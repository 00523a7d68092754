-- `names::alias` meets its contract.
use native.Mathlib.Omega.{arith}
use Rattle.hoa_tokens.proofs.Laws.{is_alias, at_alone}
use Rattle.hoa_text.specs.Offsets.{byte_inside}
use Rattle.hoa_tokens.proofs.names.alias.Goals as goal

pub overflow_add-start : goal.overflow_add-start
overflow_add-start c = omega (arith, byte_inside c.args.text.now c.args.start 63 c.requires)

pub word_end-end-requires : goal.word_end-end-requires
word_end-end-requires c = omega (arith, byte_inside c.args.text.now c.args.start 63 c.requires)

pub returns-then-end-start : goal.returns-then-end-start
returns-then-end-start c = at_alone _ _ _ c.word_end-end.ensures c.requires c.if-end-start.true

pub returns-else-end-start : goal.returns-else-end-start
returns-else-end-start c = is_alias _ _ _ c.word_end-end.ensures c.requires c.if-end-start.false
