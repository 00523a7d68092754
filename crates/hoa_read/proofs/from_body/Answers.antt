-- `from_body` meets its contract.
use Rattle.std.proofs.lemmas.Result.{err_from_is_err_and}
use Rattle.hoa_read.proofs.ReadLaws.{body_ended, body_refused}
use Rattle.hoa_read.proofs.from_body.Goals as goal

pub returns-in_err-read : goal.returns-in_err-read
returns-in_err-read c =
    let p = err_from_is_err_and c.from_residual.result c.from_residual.ensures.1 in
    rw (p.1, p.2) (body_refused c.args.text.now c.args.at c.args.opened _ (c.in_err-read.ensures.is c.requires))

pub returns : goal.returns
returns c = body_ended c.args.text.now c.args.at c.args.opened _ (c.in_ok-read.ensures.is c.requires) c.ended.result c.ended.ensures
