-- `write` meets its contract.
use native.Mathlib.Omega.{arith}
use Rattle.hoa_text.proofs.WrittenLength.{text_le}
use Rattle.hoa_write.proofs.Answers.{short_answer, outside_answer, text_answer}
use Rattle.hoa_write.proofs.write.Goals as goal

pub returns-then-out-lt-BYTES : goal.returns-then-out-lt-BYTES
returns-then-out-lt-BYTES c = short_answer _ _ c.if-out-lt-BYTES.true

pub returns-then-not-valid : goal.returns-then-not-valid
returns-then-not-valid c = outside_answer _ _ c.if-out-lt-BYTES.false c.valid.ensures c.if-not-valid.true

pub text-requires : goal.text-requires
text-requires c =
    let v = c.valid.ensures.0 c.if-not-valid.false in
    (v, omega (arith, c.if-out-lt-BYTES.false, text_le _ v))

pub returns : goal.returns
returns c = text_answer _ _ c.if-out-lt-BYTES.false (c.valid.ensures.0 c.if-not-valid.false) c.text.ensures
