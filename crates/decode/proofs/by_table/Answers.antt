-- `by_table` meets its contract.
use Rattle.std.proofs.Common.{refl}
use Rattle.std.proofs.lemmas.Result.{err_from_is_err_and}
use Rattle.decode.proofs.Tabling.{fitting, stopped_answer, agreed_answer, refused_answer}
use Rattle.decode.proofs.by_table.Goals as goal

pub fill-requires : goal.fill-requires
fill-requires c = fitting c.requires.0

pub returns-in-Some : goal.returns-in-Some
returns-in-Some c = stopped_answer c.requires.0 c.args.held.named c.in-Some.ensures.0 c.in-Some.ensures.2 refl

pub returns-in_err-compare : goal.returns-in_err-compare
returns-in_err-compare c =
    let p = err_from_is_err_and c.from_residual.result c.from_residual.ensures.1 in
    refused_answer c.requires.0 c.args.held.named c.in_default.ensures c.table_of-table.ensures c.requires.1 c.compare.ensures _ c.in_err-compare.was
    (rw (p.1, p.2) refl)

pub returns : goal.returns
returns c =
    agreed_answer c.requires.0 c.args.held.named c.in_default.ensures c.table_of-table.ensures c.requires.1 c.compare.ensures c.in_ok-compare.was
