-- `byte_between` meets its contract.
use mathlib.Core.Path.{ap}
use Prim.Native.Nat.{◌%◌}
use native.Mathlib.Omega.{arith}
use lib.Dec.{ltb}
use lib.ListN.{length}
use lib.Pow.{pow_pos}
use Rattle.bits.specs.SetLaws.{single_is}
use Rattle.hoa_write.specs.Pieces.{byte_if}
use Rattle.hoa_write.proofs.Writing.{named}
use Rattle.hoa_write.proofs.parts.byte_between.Goals as goal

pub nonzero_rem-lower : goal.nonzero_rem-lower
nonzero_rem-lower c = omega (arith, single_is c.requires.0 c.single.ensures, pow_pos c.args.i)

pub byte_if-requires : goal.byte_if-requires
byte_if-requires c =
    omega (arith, c.requires.1, ap (λ n. length (byte_if (ltb 0 (c.args.m % n)) c.args.b)) (single_is c.requires.0 c.single.ensures))

pub returns : goal.returns
returns c =
    named (ap (λ n. byte_if (ltb 0 (c.args.m % n)) c.args.b) (single_is c.requires.0 c.single.ensures)) c.byte_if.ensures
