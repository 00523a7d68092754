-- `literals` meets its contract: what is written is the first i pieces.
use native.Mathlib.Omega.{arith}
use Rattle.decimal.specs.Writing.{wrote_none}
use Rattle.hoa_write.specs.Pieces.{literal_piece}
use Rattle.hoa_write.proofs.Writing.{each_more, each_room, each_whole}
use Rattle.hoa_write.proofs.edges.literals.Goals as goal

pub loop-i-init : goal.loop-i-init
loop-i-init c = wrote_none _ _ (omega arith)

pub literal-next-requires : goal.literal-next-requires
literal-next-requires c =
    (omega arith, each_room (literal_piece c.args.l) c.loop-i.i c.args.k c.loop-i.invariant c.loop-i-test.true c.requires.1)

pub loop-i-preserved : goal.loop-i-preserved
loop-i-preserved c =
    each_more (literal_piece c.args.l) c.loop-i.i c.loop-i.invariant c.literal-next.ensures

pub returns : goal.returns
returns c = each_whole (literal_piece c.args.l) c.loop-i.i c.args.k (omega arith) c.loop-i.invariant
