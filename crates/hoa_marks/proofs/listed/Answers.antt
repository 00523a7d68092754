-- `listed` meets its contract.
use Rattle.hoa_tokens.proofs.Due.{number_absent}
use Rattle.hoa_marks.proofs.MarkLaws.{marks_closed}
use Rattle.hoa_marks.proofs.listed.Goals as goal

pub returns : goal.returns
returns c = marks_closed _ _ _ _ _ c.loop-start.invariant c.closed.result c.closed.ensures (number_absent _ _ _ c.next_token.ensures c.in_default.not-Number)
