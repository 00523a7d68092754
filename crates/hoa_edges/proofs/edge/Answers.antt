-- `edge` meets its contract.
use Rattle.std.proofs.lemmas.Result.{err_from_is_err_and}
use Rattle.hoa_edges.proofs.EdgeLaws.{label_refused, label_read}
use Rattle.hoa_edges.proofs.edge.Goals as goal

pub returns-in_err-read : goal.returns-in_err-read
returns-in_err-read c =
    let p = err_from_is_err_and c.from_residual.result c.from_residual.ensures.1 in
    rw (p.1, p.2) (label_refused _ _ _ _ _ c.if-sets-gt-SETS.false _ c.in_err-read.ensures)

pub returns : goal.returns
returns c = label_read _ _ _ _ _ c.if-sets-gt-SETS.false _ _ c.in_ok-read.ensures c.labelled.result c.labelled.ensures
