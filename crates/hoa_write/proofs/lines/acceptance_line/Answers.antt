-- `acceptance_line` meets its contract.
use native.Mathlib.Omega.{arith}
use lib.ListN.{length, length-append}
use Rattle.decimal.specs.Writing.{roomy_then, room_left}
use Rattle.hoa_text.specs.Written.{condition_text}
use Rattle.hoa_write.proofs.lines.acceptance_line.Goals as goal

pub item-at-requires : goal.item-at-requires
item-at-requires c =
    (omega (arith, c.requires.0.sets_le), omega (arith, simp length-append at c.requires.1))

pub condition-at-requires : goal.condition-at-requires
condition-at-requires c =
    let h = simp length-append at c.requires.1 in
    (c.requires.0.sets_le, room_left (roomy_then (λ h. c.item-at.ensures) c.byte-at.ensures.roomy (simp length-append (omega arith))) (length (condition_text c.args.a.sets c.args.a.acceptance)) (simp length-append (omega arith)))

pub returns : goal.returns
returns c = roomy_then (roomy_then (λ h. c.item-at.ensures) (roomy_then c.byte-at.ensures.roomy (λ h. c.condition-at.ensures))) c.byte.ensures.roomy (omega (arith, c.requires.1))
