-- `bytes::word_end` meets its contract.
use mathlib.Core.Path.{refl}
use native.Mathlib.Omega.{arith}
use mathlib.Core.Path.{sym, ◌∙◌}
use Rattle.hoa_tokens.proofs.Laws.{scanned_none, scanned_more, scanned_run, scanned_end}
use Rattle.hoa_tokens.proofs.bytes.word_end.Goals as goal

pub loop-end-init : goal.loop-end-init
loop-end-init c = scanned_none c.requires

pub returns-then-not-in_word : goal.returns-then-not-in_word
returns-then-not-in_word c = scanned_run c.loop-end.invariant (sym c.in_word.ensures ∙ c.if-not-in_word.true)

pub loop-end-preserved : goal.loop-end-preserved
loop-end-preserved c = scanned_more c.loop-end.invariant c.loop-end-test.true (sym c.in_word.ensures ∙ c.if-not-in_word.false)

pub returns : goal.returns
returns c = scanned_end c.loop-end.invariant (omega arith) refl
