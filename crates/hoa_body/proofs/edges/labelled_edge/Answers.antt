-- `edges::labelled_edge` meets its contract.
use Rattle.std.proofs.lemmas.Result.{err_from_is_err_and}
use Rattle.hoa_body.proofs.EdgeLaws.{labelled_refused, labelled_edge_lem}
use Rattle.hoa_body.proofs.edges.labelled_edge.Goals as goal

pub returns-in_err-read : goal.returns-in_err-read
returns-in_err-read c =
    let p = err_from_is_err_and c.from_residual.result c.from_residual.ensures.1 in
    rw (p.1, p.2) (labelled_refused _ _ _ _ _ c.requires.0 _ c.in_err-read.ensures)

pub returns : goal.returns
returns c = labelled_edge_lem _ _ _ _ _ c.requires.0 _ c.in_ok-read.ensures c.first_edge.result c.first_edge.ensures
