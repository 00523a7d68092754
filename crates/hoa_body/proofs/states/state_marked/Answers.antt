-- `states::state_marked` meets its contract.
use Rattle.std.proofs.lemmas.Result.{err_from_is_err_and}
use Rattle.hoa_body.proofs.StateLaws.{marks_refused, marks_read}
use Rattle.hoa_body.proofs.states.state_marked.Goals as goal

pub returns-in_err-read : goal.returns-in_err-read
returns-in_err-read c =
    let p = err_from_is_err_and c.from_residual.result c.from_residual.ensures.1 in
    rw (p.1, p.2) (marks_refused _ _ _ _ c.unquoted.result c.requires.1 c.unquoted.ensures _ c.in_err-read.ensures)

pub returns : goal.returns
returns c = marks_read _ _ _ _ c.unquoted.result c.requires.1 c.unquoted.ensures _ c.requires.2 c.in_ok-read.ensures
