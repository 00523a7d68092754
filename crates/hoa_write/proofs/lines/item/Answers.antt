-- `item` meets its contract.
use native.Mathlib.Omega.{arith}
use lib.ListN.{length, length-append}
use Rattle.decimal.specs.Writing.{roomy_then, room_left}
use Rattle.hoa_text.specs.Written.{decimal}
use Rattle.hoa_write.proofs.lines.item.Goals as goal

pub number-requires : goal.number-requires
number-requires c =
    let h = simp length-append at c.requires.1 in
    (c.requires.0, room_left (roomy_then c.word-at.ensures.roomy c.byte-at.ensures.roomy (simp length-append (omega arith))) (length (decimal c.args.n)) (simp length-append (omega arith)))

pub returns : goal.returns
returns c = roomy_then c.word-at.ensures.roomy (roomy_then c.byte-at.ensures.roomy (λ h. c.number.ensures)) (omega (arith, c.requires.1))
