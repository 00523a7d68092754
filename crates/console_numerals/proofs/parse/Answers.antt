-- `parse` meets its contract.
use mathlib.Core.Path.{sym, ◌∙◌}
use native.Mathlib.Omega.{arith}
use Rattle.hoa_text.specs.Numbers.{digit_from}
use Rattle.console_numerals.proofs.Parsing.{begin, no_bytes, no_digit, no_room, one_more, whole}
use Rattle.console_numerals.proofs.parse.Goals as goal

pub returns-then-is_empty : goal.returns-then-is_empty
returns-then-is_empty c = no_bytes c.args.word.now c.is_empty.ensures c.if-is_empty.true

pub loop-byte-init : goal.loop-byte-init
loop-byte-init c = begin _ c.is_empty.ensures c.if-is_empty.false

pub returns-then-not-is_digit : goal.returns-then-not-is_digit
returns-then-not-is_digit c = no_digit _ c.loop-byte-test.true c.loop-byte.invariant (sym c.is_digit.ensures ∙ c.if-not-is_digit.true)

pub overflow_sub-byte : goal.overflow_sub-byte
overflow_sub-byte c = digit_from _ (sym c.is_digit.ensures ∙ c.if-not-is_digit.false)

pub returns-in_err-checked_mul : goal.returns-in_err-checked_mul
returns-in_err-checked_mul c =
    c.from_residual.ensures ∙ no_room _ c.loop-byte-test.true c.loop-byte.invariant (sym c.is_digit.ensures ∙ c.if-not-is_digit.false) c.from-digit.ensures (omega (arith, c.in_err-checked_mul.ensures))

pub returns-in_err-value : goal.returns-in_err-value
returns-in_err-value c =
    c.from_residual-in_err-value.ensures ∙ no_room _ c.loop-byte-test.true c.loop-byte.invariant (sym c.is_digit.ensures ∙ c.if-not-is_digit.false) c.from-digit.ensures (omega (arith, c.in_err-value.ensures, c.in_ok-checked_mul.ensures))

pub loop-byte-preserved : goal.loop-byte-preserved
loop-byte-preserved c =
    one_more _ c.loop-byte-test.true c.loop-byte.invariant (sym c.is_digit.ensures ∙ c.if-not-is_digit.false) c.from-digit.ensures (omega (arith, c.in_ok-value.ensures, c.in_ok-checked_mul.ensures)) (omega (arith, c.in_ok-value.ensures))

pub returns : goal.returns
returns c = whole _ c.loop-byte-test.false c.loop-byte.invariant
