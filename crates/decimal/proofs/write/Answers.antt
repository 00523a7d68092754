-- `write` meets its contract.
use native.Mathlib.Omega.{arith}
use Rattle.decimal.specs.Digits.{places_from, places_to, places_enough}
use Rattle.decimal.proofs.Laws.{wrote_nothing, wrote_decimal}
use Rattle.decimal.proofs.write.Goals as goal

pub returns-then-size-at : goal.returns-then-size-at
returns-then-size-at c =
    wrote_nothing c.args.n c.args.at c.args.dst.now _ c.digit_count-count.ensures (omega arith)

pub returns-then-size-at-2 : goal.returns-then-size-at-2
returns-then-size-at-2 c =
    wrote_nothing c.args.n c.args.at c.args.dst.now _ c.digit_count-count.ensures (omega arith)

pub write_digits-requires : goal.write_digits-requires
write_digits-requires c =
    (omega (arith, c.digit_count-count.ensures, places_from 19 1 c.args.n), omega (arith, c.digit_count-count.ensures, places_to 19 1 c.args.n), record { small = rw c.digit_count-count.ensures (places_enough 19 1 c.args.n (omega arith)); room = omega arith })

pub returns : goal.returns
returns c =
    wrote_decimal c.args.n c.args.at c.digit_count-count.ensures c.write_digits.ensures
