-- `bracketed` meets its contract.
use native.Mathlib.Omega.{arith}
use lib.ListN.{length, length-append}
use Rattle.decimal.specs.Writing.{roomy_then, room_left}
use Rattle.hoa_text.specs.Written.{label_of}
use Rattle.hoa_write.proofs.edges.bracketed.Goals as goal

pub label-at-requires : goal.label-at-requires
label-at-requires c =
    let h = simp length-append at c.requires.1 in
    (c.requires.0, room_left (c.byte-at.ensures.roomy (omega arith)) (length (label_of c.args.k c.args.l)) (omega arith))

pub returns : goal.returns
returns c = roomy_then c.byte-at.ensures.roomy (roomy_then (λ h. c.label-at.ensures) (roomy_then c.byte-at-2.ensures.roomy c.byte.ensures.roomy)) (omega (arith, c.requires.1))
