-- `members` meets its contract: what is written is the first i pieces.
use native.Mathlib.Omega.{arith}
use Rattle.decimal.specs.Writing.{wrote_none}
use Rattle.hoa_write.specs.Pieces.{mark_piece}
use Rattle.hoa_write.proofs.Writing.{each_more, each_room, each_whole}
use Rattle.hoa_write.proofs.edges.members.Goals as goal

pub loop-i-init : goal.loop-i-init
loop-i-init c = wrote_none _ _ (omega arith)

pub member-next-requires : goal.member-next-requires
member-next-requires c =
    (omega arith, each_room (mark_piece c.args.m) c.loop-i.i c.args.sets c.loop-i.invariant c.loop-i-test.true c.requires.1)

pub loop-i-preserved : goal.loop-i-preserved
loop-i-preserved c =
    each_more (mark_piece c.args.m) c.loop-i.i c.loop-i.invariant c.member-next.ensures

pub returns : goal.returns
returns c = each_whole (mark_piece c.args.m) c.loop-i.i c.args.sets (omega arith) c.loop-i.invariant
