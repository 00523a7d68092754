-- `print_automaton` meets its contract.
use native.Mathlib.Omega.{arith}
use Rattle.console_results.proofs.print_automaton.Goals as goal

pub returns-in-Err : goal.returns-in-Err
returns-in-Err c = record { written = λ v. (c.in-Err.ensures.written (omega arith) v).0; outside = λ v. (c.in-Err.ensures.outside (omega arith) v).0 }
