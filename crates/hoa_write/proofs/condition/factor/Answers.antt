-- `factor` meets its contract.
use mathlib.Core.Path.{ap}
use native.Mathlib.Omega.{arith}
use lib.ListN.{length, length-append}
use Rattle.decimal.specs.Writing.{wrote_then, roomy_then, room_left}
use Rattle.hoa_text.specs.Written.{decimal}
use Rattle.hoa_write.proofs.Cases.{factor_is, factor_length}
use Rattle.hoa_write.proofs.Writing.{named}
use Rattle.hoa_write.proofs.condition.factor.Goals as goal

pub byte_if-next-requires : goal.byte_if-next-requires
byte_if-next-requires c = omega (arith, simp length-append at c.requires.1)

pub inf_or_fin-next-requires : goal.inf_or_fin-next-requires
inf_or_fin-next-requires c =
    room_left c.byte_if-next.ensures _ (omega (arith, c.requires.1, factor_length c.args.x c.args.i c.has.ensures))

pub number-next-requires : goal.number-next-requires
number-next-requires c =
    let h = factor_length c.args.x c.args.i c.has.ensures in
    let w = wrote_then c.byte_if-next.ensures c.inf_or_fin-next.ensures in
    (omega arith, room_left (roomy_then (λ h. w) c.byte-next.ensures.roomy (simp length-append (omega (arith, c.requires.1, h)))) (length (decimal c.args.i)) (simp length-append (omega (arith, c.requires.1, h))))

pub returns : goal.returns
returns c =
    let e = factor_is c.args.x c.args.i c.has.ensures in
    named e (roomy_then (λ h. c.byte_if-next.ensures) (roomy_then (λ h. c.inf_or_fin-next.ensures) (roomy_then c.byte-next.ensures.roomy (roomy_then (λ h. c.number-next.ensures) c.byte.ensures.roomy))) (omega (arith, c.requires.1, ap length e)))
