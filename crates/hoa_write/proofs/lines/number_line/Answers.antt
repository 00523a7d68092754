-- `number_line` meets its contract.
use native.Mathlib.Omega.{arith}
use lib.ListN.{length-append}
use Rattle.decimal.specs.Writing.{roomy_then}
use Rattle.hoa_write.proofs.lines.number_line.Goals as goal

pub item-end-requires : goal.item-end-requires
item-end-requires c = (c.requires.0, simp length-append (omega (arith, simp length-append at c.requires.1)))

pub returns : goal.returns
returns c = roomy_then (λ h. c.item-end.ensures) c.byte.ensures.roomy (omega (arith, c.requires.1))
