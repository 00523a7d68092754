-- `argument` meets its contract.
use Rattle.std.proofs.Common.{arith, rules}
use Rattle.console_read.proofs.argument.Goals as goal

pub returns-in-Ok : goal.returns-in-Ok
returns-in-Ok c = record { count = c.in-Ok.count; there = omega (arith, c.in-Ok.ensures); error = 0; taken = search rules; failed = λ e. absurd (omega arith) }
