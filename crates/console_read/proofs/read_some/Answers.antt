-- `read_some` meets its contract.
use Rattle.std.proofs.Common.{arith, refl, pos, negsuc}
use Rattle.console_read.proofs.read_some.Goals as goal

pub returns-in-Ok : goal.returns-in-Ok
returns-in-Ok g c = record { answer = pos c.in-Ok.length; moved = omega (arith, c.in-Ok.ensures.bound.0, c.read.auto.buf); is = refl }

pub returns-in-Err : goal.returns-in-Err
returns-in-Err g c = record { answer = negsuc 0; moved = refl; is = c.unread.ensures }
