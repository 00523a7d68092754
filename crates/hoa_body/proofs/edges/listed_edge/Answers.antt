-- `edges::listed_edge` meets its contract.
use Rattle.std.proofs.lemmas.Result.{err_from_is_err_and}
use Rattle.hoa_body.proofs.EdgeLaws.{listed_refused, listed_edge_lem}
use Rattle.hoa_body.proofs.edges.listed_edge.Goals as goal

pub returns-in_err-read : goal.returns-in_err-read
returns-in_err-read c =
    let p = err_from_is_err_and c.from_residual.result c.from_residual.ensures.1 in
    rw (p.1, p.2) (listed_refused _ _ _ _ _ c.requires.0 _ c.requires.2 c.single.ensures _ c.in_err-read.ensures)

pub returns : goal.returns
returns c =
    listed_edge_lem _ _ _ _ _ c.requires.0 _ c.requires.2 c.single.ensures _ c.in_ok-read.ensures c.first_edge.result c.first_edge.ensures
