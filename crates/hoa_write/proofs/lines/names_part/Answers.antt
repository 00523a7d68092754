-- `names_part` meets its contract.
use mathlib.Core.Path.{ap}
use native.Mathlib.Omega.{arith}
use lib.ListN.{length}
use Rattle.hoa_write.proofs.Values.{names_none, names_some}
use Rattle.hoa_write.proofs.Writing.{named}
use Rattle.hoa_write.proofs.lines.names_part.Goals as goal

pub returns-then-a-eq0 : goal.returns-then-a-eq0
returns-then-a-eq0 c = names_none c.args.a _ c.if-a-eq0.true

pub names_line-requires : goal.names_line-requires
names_line-requires c =
    (c.requires.0, omega (arith, c.requires.1, ap length (names_some c.args.a c.if-a-eq0.false)))

pub returns : goal.returns
returns c = named (names_some c.args.a c.if-a-eq0.false) c.names_line.ensures
