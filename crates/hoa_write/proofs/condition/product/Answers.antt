-- `product` meets its contract: what is written is the first i factors.
use mathlib.Core.Path.{ap, sym}
use native.Mathlib.Omega.{arith}
use lib.ListN.{length}
use Rattle.decimal.specs.Writing.{wrote_none}
use Rattle.hoa_write.specs.Pieces.{factor_piece, product_pieces}
use Rattle.hoa_write.proofs.Writing.{each_more, each_room, each_whole, named}
use Rattle.hoa_write.proofs.condition.product.Goals as goal

pub loop-i-init : goal.loop-i-init
loop-i-init c = wrote_none _ _ (omega arith)

pub factor-next-requires : goal.factor-next-requires
factor-next-requires c =
    let e = ap length (product_pieces c.args.sets c.args.x) in
    (omega arith, each_room (factor_piece c.args.x) c.loop-i.i c.args.sets c.loop-i.invariant c.loop-i-test.true (omega (arith, c.requires.1, e)))

pub loop-i-preserved : goal.loop-i-preserved
loop-i-preserved c =
    each_more (factor_piece c.args.x) c.loop-i.i c.loop-i.invariant c.factor-next.ensures

pub returns : goal.returns
returns c =
    named (sym (product_pieces c.args.sets c.args.x)) (each_whole (factor_piece c.args.x) c.loop-i.i c.args.sets (omega arith) c.loop-i.invariant)
