-- `numbers::number` meets its contract.
use native.Mathlib.Omega.{arith}
use Rattle.hoa_tokens.proofs.Laws.{digit_inside, zero_leads, zero_alone, no_zero}
use Rattle.hoa_tokens.proofs.numbers.number.Goals as goal

pub digits-run-requires : goal.digits-run-requires
digits-run-requires c = omega (arith, digit_inside c.args.text.now c.args.start c.requires)

pub bounds-text-start : goal.bounds-text-start
bounds-text-start c = digit_inside c.args.text.now c.args.start c.requires

pub returns-then-start-end : goal.returns-then-start-end
returns-then-start-end c = zero_leads _ _ _ _ c.requires c.digits-run.ensures c.if-text-start-eq48.true c.if-start-end.true

pub returns-else-start-end : goal.returns-else-start-end
returns-else-start-end c = zero_alone _ _ _ _ c.requires c.digits-run.ensures c.if-start-end.false

pub returns-else-text-start-eq48 : goal.returns-else-text-start-eq48
returns-else-text-start-eq48 c = no_zero _ _ _ _ c.requires c.digits-run.ensures c.if-text-start-eq48.false
