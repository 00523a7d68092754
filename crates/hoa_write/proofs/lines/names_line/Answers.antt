-- `names_line` meets its contract.
use native.Mathlib.Omega.{arith}
use lib.ListN.{length-append}
use Rattle.decimal.specs.Writing.{wrote_then, roomy_then}
use Rattle.hoa_write.proofs.lines.names_line.Goals as goal

pub item-at-requires : goal.item-at-requires
item-at-requires c =
    (omega (arith, c.requires.0.propositions_le), omega (arith, simp length-append at c.requires.1))

pub quoted_names-at-requires : goal.quoted_names-at-requires
quoted_names-at-requires c =
    (c.requires.0, omega (arith, simp length-append at c.requires.1))

pub returns : goal.returns
returns c = roomy_then (λ h. wrote_then c.item-at.ensures c.quoted_names-at.ensures) c.byte.ensures.roomy (omega (arith, c.requires.1))
