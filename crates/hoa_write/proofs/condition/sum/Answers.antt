-- `sum` meets its contract: what is written is the summands below x.
use Prim.Native.Nat.{◌^◌}
use native.Mathlib.Omega.{arith}
use Rattle.bits.specs.Powers.{power_is}
use Rattle.decimal.specs.Writing.{wrote_none}
use Rattle.hoa_write.specs.Pieces.{summand_piece}
use Rattle.hoa_write.proofs.Writing.{each_more, each_room, each_whole}
use Rattle.hoa_write.proofs.condition.sum.Goals as goal

pub loop-x-init : goal.loop-x-init
loop-x-init c = wrote_none _ _ (omega arith)

pub summand-next-requires : goal.summand-next-requires
summand-next-requires c =
    (c.requires.0, omega (arith, c.power_of_two-count.ensures.bounded), each_room (summand_piece c.args.sets c.args.acceptance) c.loop-x.x (2 ^ c.args.sets) c.loop-x.invariant (omega (arith, power_is c.requires.0 c.power_of_two-count.ensures.is)) c.requires.1)

pub loop-x-preserved : goal.loop-x-preserved
loop-x-preserved c =
    each_more (summand_piece c.args.sets c.args.acceptance) c.loop-x.x c.loop-x.invariant c.summand-next.ensures

pub returns : goal.returns
returns c =
    each_whole (summand_piece c.args.sets c.args.acceptance) c.loop-x.x (2 ^ c.args.sets) (omega (arith, power_is c.requires.0 c.power_of_two-count.ensures.is)) c.loop-x.invariant
