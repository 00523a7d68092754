-- `member` meets its contract.
use mathlib.Core.Path.{ap}
use native.Mathlib.Omega.{arith}
use lib.ListN.{length, length-append}
use Rattle.decimal.specs.Writing.{wrote_then, room_left}
use Rattle.hoa_text.specs.Written.{decimal}
use Rattle.hoa_write.proofs.Cases.{member_is, no_member}
use Rattle.hoa_write.proofs.Writing.{named}
use Rattle.hoa_write.proofs.edges.member.Goals as goal

pub returns-then-not-has : goal.returns-then-not-has
returns-then-not-has c =
    no_member " " c.args.m decimal c.args.i c.has.ensures c.args.at c.if-not-has.true c.requires.1

pub byte_between-next-requires : goal.byte_between-next-requires
byte_between-next-requires c =
    (omega arith, omega (arith, c.requires.1, simp length-append at (ap length (member_is " " c.args.m decimal c.args.i c.has.ensures c.if-not-has.false))))

pub number-requires : goal.number-requires
number-requires c =
    (omega arith, room_left c.byte_between-next.ensures (length (decimal c.args.i)) (omega (arith, c.requires.1, simp length-append at (ap length (member_is " " c.args.m decimal c.args.i c.has.ensures c.if-not-has.false)))))

pub returns : goal.returns
returns c =
    named (member_is " " c.args.m decimal c.args.i c.has.ensures c.if-not-has.false) (wrote_then c.byte_between-next.ensures c.number.ensures)
