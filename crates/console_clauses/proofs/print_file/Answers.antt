-- `print_file` meets its contract.
use Rattle.console_clauses.proofs.Files.{file_handed, refusal_handed}
use Rattle.console_clauses.proofs.print_file.Goals as goal

pub print_clauses-requires : goal.print_clauses-requires
print_clauses-requires c =
    let (v, z, k) = c.in-Ok.ensures in
    record { valid = v; proper = z; length_bound = c.print_header-header.ensures.most }

pub returns-in-Ok : goal.returns-in-Ok
returns-in-Ok c = file_handed c.in-Ok.ensures c.print_header-header.ensures.is c.print_clauses.ensures

pub returns-in-Err : goal.returns-in-Err
returns-in-Err c = refusal_handed c.in-Err.ensures c.print_refusal.ensures
