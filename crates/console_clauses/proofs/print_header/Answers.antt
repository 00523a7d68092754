-- `print_header` meets its contract.
use mathlib.Core.Path.{ap, ◌∙◌}
use native.Mathlib.Omega.{arith}
use lib.ListN.{length}
use Rattle.decimal.specs.Writing.{wrote_front}
use Rattle.console_clauses.proofs.print_header.Goals as goal

pub returns : goal.returns
returns c = let e = c.print_line.ensures ∙ ap length (wrote_front c.header-length.ensures) in
    record { is = e; most = omega (arith, e, c.header-length.ensures.next, c.header-length.ensures.room) }
