-- `bytes::skip_blanks` meets its contract.
use mathlib.Core.Path.{sym, ◌∙◌}
use native.Mathlib.Omega.{arith}
use Rattle.hoa_tokens.proofs.Laws.{passed_none, passed_more, skipped, skipped_end}
use Rattle.hoa_tokens.proofs.bytes.skip_blanks.Goals as goal

pub loop-i-init : goal.loop-i-init
loop-i-init c = (passed_none _ _, omega arith)

pub returns-then-not-is_blank : goal.returns-then-not-is_blank
returns-then-not-is_blank c = skipped c.loop-i.invariant.0 (sym c.is_blank.ensures ∙ c.if-not-is_blank.true)

pub loop-i-preserved : goal.loop-i-preserved
loop-i-preserved c = (passed_more c.loop-i.invariant.0 c.loop-i-test.true (sym c.is_blank.ensures ∙ c.if-not-is_blank.false), omega arith)

pub returns : goal.returns
returns c = skipped_end c.loop-i.invariant.0 (omega arith) (omega (arith, c.loop-i.invariant.0.from))
