-- `firsts::fill` meets its contract.
use Rattle.std.proofs.Common.{refl, sym, ◌∙◌, arith}
use Rattle.meaning.specs.CountingLaws.{filled_all}
use Rattle.clause_variables.proofs.FirstLaws.{counted_none, counted_more, counted_is}
use Rattle.clause_variables.proofs.firsts.fill.Goals as goal
use Rattle.clause_variables.proofs.firsts.fill.Goals.{then-has, else-has}

pub loop-v-init : goal.loop-v-init
loop-v-init c = counted_none _ _ c.told-numbers

pub loop-v-preserved : goal.loop-v-preserved
loop-v-preserved c =
    elim c.if-has.branch [
      | then-has w ↦ counted_is w.numbers-is w.next-is (counted_more _ _ _ _ c.loop-v.invariant c.loop-v-test.true c.requires.1 (sym w.if-has.true ∙ c.has.ensures) refl refl)
      | else-has w ↦ counted_is w.numbers-is (omega (arith, w.next-is)) (counted_more _ _ _ _ c.loop-v.invariant c.loop-v-test.true c.requires.1 (sym w.if-has.false ∙ c.has.ensures) refl refl)
    ]

pub returns : goal.returns
returns c = filled_all _ 16 _ _ c.loop-v.invariant.filled (omega arith)
