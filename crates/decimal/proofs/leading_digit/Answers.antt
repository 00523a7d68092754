-- `leading_digit` meets its contract.
use native.Mathlib.Omega.{arith}
use Rattle.decimal.proofs.Laws.{taken_none, taken_once, taken_enough, taken_all}
use Rattle.decimal.proofs.leading_digit.Goals as goal
use Rattle.decimal.proofs.leading_digit.Goals.{then-power-rest, else-power-rest}

pub loop-turn-init : goal.loop-turn-init
loop-turn-init c = taken_none c.args.n c.args.power c.requires

pub overflow_add-digit : goal.overflow_add-digit
overflow_add-digit c = omega (arith, c.loop-turn.invariant.count)

pub loop-turn-preserved : goal.loop-turn-preserved
loop-turn-preserved c =
    elim c.if-power-rest.branch [
      | then-power-rest w ↦ taken_once c.loop-turn.invariant c.loop-turn-test.true w.if-power-rest.true w.digit-is w.rest-is
      | else-power-rest w ↦ taken_enough c.loop-turn.invariant c.loop-turn-test.true w.if-power-rest.false w.digit-is w.rest-is
    ]

pub returns : goal.returns
returns c = record { is = taken_all c.loop-turn.invariant (omega arith); small = omega (arith, c.loop-turn.invariant.count) }
