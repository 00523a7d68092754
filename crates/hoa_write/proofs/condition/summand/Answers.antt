-- `summand` meets its contract.
use mathlib.Core.Path.{ap}
use native.Mathlib.Omega.{arith}
use lib.ListN.{length, length-append}
use Rattle.decimal.specs.Writing.{wrote_then, room_left}
use Rattle.hoa_text.specs.Written.{marks_text}
use Rattle.hoa_write.proofs.Cases.{member_is, no_member}
use Rattle.hoa_write.proofs.Writing.{named}
use Rattle.hoa_write.proofs.condition.summand.Goals as goal

pub returns-then-not-has : goal.returns-then-not-has
returns-then-not-has c =
    no_member "|" c.args.acceptance (marks_text c.args.sets) c.args.x c.has.ensures c.args.at c.if-not-has.true c.requires.2

pub byte_between-next-requires : goal.byte_between-next-requires
byte_between-next-requires c =
    (c.requires.1, omega (arith, c.requires.2, simp length-append at (ap length (member_is "|" c.args.acceptance (marks_text c.args.sets) c.args.x c.has.ensures c.if-not-has.false))))

pub product-requires : goal.product-requires
product-requires c =
    (c.requires.0, room_left c.byte_between-next.ensures (length (marks_text c.args.sets c.args.x)) (omega (arith, c.requires.2, simp length-append at (ap length (member_is "|" c.args.acceptance (marks_text c.args.sets) c.args.x c.has.ensures c.if-not-has.false)))))

pub returns : goal.returns
returns c =
    named (member_is "|" c.args.acceptance (marks_text c.args.sets) c.args.x c.has.ensures c.if-not-has.false) (wrote_then c.byte_between-next.ensures c.product.ensures)
