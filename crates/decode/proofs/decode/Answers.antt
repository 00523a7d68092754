-- `decode` meets its contract: what the reader turns down, then what it holds.
use Rattle.std.proofs.Common.{refl}
use Rattle.std.proofs.lemmas.Result.{err_from_is_err_and}
use Rattle.decode.proofs.Answering.{refused_answer, accepted_answer}
use Rattle.decode.proofs.decode.Goals as goal

pub returns-in_err-reply : goal.returns-in_err-reply
returns-in_err-reply c =
    let p = err_from_is_err_and c.from_residual.result c.from_residual.ensures.1 in
    refused_answer _ _ _ _ _ c.if-prefix-lt-PREFIX.false c.if-cycle-lt-LOOP.false c.finish-reply.ensures _ c.in_err-reply.was (rw (p.1, p.2) refl)

pub returns : goal.returns
returns c =
    accepted_answer _ _ _ _ _ c.if-prefix-lt-PREFIX.false c.if-cycle-lt-LOOP.false c.finish-reply.ensures c.in_ok-reply.was c.by_verdict.ensures
