-- `marks` meets its contract.
use mathlib.Core.Path.{ap}
use native.Mathlib.Omega.{arith}
use lib.ListN.{length, length-append}
use Rattle.meaning.specs.Counting.{each}
use Rattle.decimal.specs.Writing.{roomy_then, room_left}
use Rattle.hoa_write.specs.Pieces.{mark_piece}
use Rattle.hoa_write.proofs.Cases.{marks_some, marks_none}
use Rattle.hoa_write.proofs.Writing.{named}
use Rattle.hoa_write.proofs.edges.marks.Goals as goal

pub returns-then-m-eq0 : goal.returns-then-m-eq0
returns-then-m-eq0 c = marks_none c.args.sets c.args.m c.args.at c.if-m-eq0.true c.requires.1

pub members-next-requires : goal.members-next-requires
members-next-requires c =
    let h = simp length-append at (ap length (marks_some c.args.sets c.args.m c.if-m-eq0.false)) in
    (c.requires.0, room_left (roomy_then c.byte-next.ensures.roomy c.byte-next-2.ensures.roomy (omega (arith, c.requires.1))) (length (each c.args.sets (mark_piece c.args.m))) (omega (arith, c.requires.1)))

pub returns : goal.returns
returns c =
    let e = marks_some c.args.sets c.args.m c.if-m-eq0.false in
    named e (roomy_then c.byte-next.ensures.roomy (roomy_then c.byte-next-2.ensures.roomy (roomy_then (λ h. c.members-next.ensures) c.byte.ensures.roomy)) (omega (arith, c.requires.1, ap length e)))
