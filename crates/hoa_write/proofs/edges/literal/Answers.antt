-- `literal` meets its contract.
use mathlib.Core.Bool.{not}
use mathlib.Core.Path.{ap}
use native.Mathlib.Omega.{arith}
use lib.ListN.{length}
use lib.ListN.{length-append}
use Rattle.decimal.specs.Writing.{wrote_then}
use Rattle.hoa_write.specs.Pieces.{byte_if}
use Rattle.hoa_write.proofs.Cases.{literal_is}
use Rattle.hoa_write.proofs.Writing.{named}
use Rattle.hoa_write.proofs.edges.literal.Goals as goal

pub byte_if-next-requires : goal.byte_if-next-requires
byte_if-next-requires c = omega (arith, simp length-append at c.requires.1)

pub byte_if-next-requires-2 : goal.byte_if-next-requires-2
byte_if-next-requires-2 c = omega (arith, simp length-append at c.requires.1, ap (λ h. length (byte_if (not h) 33)) c.has-holds.ensures)

pub number-requires : goal.number-requires
number-requires c = (omega arith, omega (arith, simp length-append at c.requires.1, ap (λ h. length (byte_if (not h) 33)) c.has-holds.ensures))

pub returns : goal.returns
returns c = named (literal_is c.args.l c.args.i c.has-holds.ensures) (wrote_then c.byte_if-next.ensures (wrote_then c.byte_if-next-2.ensures c.number.ensures))
