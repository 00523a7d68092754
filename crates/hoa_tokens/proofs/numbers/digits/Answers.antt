-- `numbers::digits` meets its contract.
use mathlib.Core.Path.{◌≡◌, refl, sym, ap, ◌∙◌}
use native.Mathlib.Omega.{arith}
use lib.ListN.{length}
use lib.Seq.{slice}
use Rattle.hoa_text.specs.Tokens.{value}
use Rattle.hoa_tokens.proofs.Laws.{scanned_none, scanned_more, scanned_run, scanned_end, no_digits, one_more_digit}
use Rattle.hoa_text.specs.Numbers.{digit_from}
use Rattle.hoa_tokens.proofs.numbers.digits.Goals as goal

pub loop-end-init : goal.loop-end-init
loop-end-init c = (scanned_none c.requires, no_digits c.args.text.now c.args.start)

pub returns-then-not-is_digit : goal.returns-then-not-is_digit
returns-then-not-is_digit c = record { run = scanned_run c.loop-end.invariant.0 (sym c.is_digit.ensures ∙ c.if-not-is_digit.true); is = c.loop-end.invariant.1 }

pub with_digit-value-requires : goal.with_digit-value-requires
with_digit-value-requires c = (omega (arith, c.loop-end.invariant.1), digit_from _ (sym c.is_digit.ensures ∙ c.if-not-is_digit.false))

pub loop-end-preserved : goal.loop-end-preserved
loop-end-preserved c = (scanned_more c.loop-end.invariant.0 c.loop-end-test.true (sym c.is_digit.ensures ∙ c.if-not-is_digit.false), one_more_digit _ _ _ _ _ c.loop-end.invariant.0.from c.loop-end-test.true c.loop-end.invariant.1 c.with_digit-value.ensures)

pub returns : goal.returns
returns c =
    let scanned = c.loop-end.invariant.0 in
    let m : c.loop-end.end ≡ length c.args.text.now = omega (arith, scanned.to) in
    record { run = scanned_end scanned (omega arith) refl; is = c.loop-end.invariant.1 ∙ ap (λ n. value (slice c.args.start n c.args.text.now)) m }
