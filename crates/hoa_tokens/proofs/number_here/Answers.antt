-- `number_here` meets its contract.
use Rattle.hoa_tokens.proofs.Laws.{past_here, led_here, zero_here, number_here}
use Rattle.hoa_tokens.proofs.number_here.Goals as goal

pub returns-then-text-at : goal.returns-then-text-at
returns-then-text-at c = past_here _ _ _ c.if-text-at.true

pub returns-then-at-end : goal.returns-then-at-end
returns-then-at-end c = led_here _ _ _ _ c.digits-run.ensures c.if-text-at-eq48.true c.if-at-end.true

pub returns-else-at-end : goal.returns-else-at-end
returns-else-at-end c = zero_here _ _ _ _ c.digits-run.ensures c.if-at-end.false

pub returns-else-text-at-eq48 : goal.returns-else-text-at-eq48
returns-else-text-at-eq48 c = number_here _ _ _ _ c.digits-run.ensures c.if-text-at-eq48.false
