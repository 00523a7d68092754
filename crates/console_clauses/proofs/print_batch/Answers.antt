-- `print_batch` meets its contract.
use Rattle.console_clauses.proofs.Batches.{not_refused, written, written_more, ended_now}
use Rattle.console_clauses.proofs.print_batch.Goals as goal

pub unwrap-handed-requires : goal.unwrap-handed-requires
unwrap-handed-requires c =
    let a = c.args in
    let p = c.requires in
    not_refused a.reference a.target a.position _ _ p.valid p.proper p.position_bound c.empty_batch-text.ensures _ c.lines.ensures

pub returns-in_default : goal.returns-in_default
returns-in_default c =
    let a = c.args in
    let p = c.requires in
    ended_now a.reference a.target a.position _ _ p.valid p.proper p.position_bound c.empty_batch-text.ensures c.lines.ensures c.unwrap-handed.ensures c.in_default.not-Some

pub returns-in-Ok : goal.returns-in-Ok
returns-in-Ok c =
    let a = c.args in
    let p = c.requires in
    written_more a.reference a.target a.position _ _ p.valid p.proper p.position_bound c.empty_batch-text.ensures c.lines.ensures c.unwrap-handed.ensures c.in-Some.is c.in-Ok.ensures

pub returns-in-Err : goal.returns-in-Err
returns-in-Err c =
    let a = c.args in
    let p = c.requires in
    written a.reference a.target a.position _ _ p.valid p.proper p.position_bound c.empty_batch-text.ensures c.lines.ensures c.unwrap-handed.ensures c.in-Some.is c.in-Err.ensures
