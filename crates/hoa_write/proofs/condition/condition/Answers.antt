-- `condition` meets its contract.
use mathlib.Core.Path.{ap}
use native.Mathlib.Omega.{arith}
use lib.ListN.{length}
use Rattle.hoa_write.proofs.Cases.{condition_all, condition_true, condition_false, condition_sum}
use Rattle.hoa_write.proofs.Writing.{named}
use Rattle.hoa_write.proofs.condition.condition.Goals as goal

pub all_sets-requires : goal.all_sets-requires
all_sets-requires c =
    (c.requires.0, omega (arith, c.requires.1, ap length (condition_all c.requires.0 c.args.acceptance c.every_set.ensures c.if-acceptance-every_set.true)))

pub returns-then-acceptance-every_set : goal.returns-then-acceptance-every_set
returns-then-acceptance-every_set c =
    named (condition_all c.requires.0 c.args.acceptance c.every_set.ensures c.if-acceptance-every_set.true) c.all_sets.ensures

pub returns-then-acceptance-all_true : goal.returns-then-acceptance-all_true
returns-then-acceptance-all_true c =
    let e = condition_true c.requires.0 c.args.acceptance c.every_set.ensures c.if-acceptance-every_set.false c.all_true.ensures c.if-acceptance-all_true.true in
    named e (c.word.ensures.roomy (omega (arith, c.requires.1, ap length e)))

pub returns-then-acceptance-eq0 : goal.returns-then-acceptance-eq0
returns-then-acceptance-eq0 c =
    let e = condition_false c.requires.0 c.args.acceptance c.every_set.ensures c.if-acceptance-every_set.false c.all_true.ensures c.if-acceptance-all_true.false c.if-acceptance-eq0.true in
    named e (c.word-then-acceptance-eq0.ensures.roomy (omega (arith, c.requires.1, ap length e)))

pub sum-requires : goal.sum-requires
sum-requires c =
    let e = condition_sum c.requires.0 c.args.acceptance c.every_set.ensures c.if-acceptance-every_set.false c.all_true.ensures c.if-acceptance-all_true.false c.if-acceptance-eq0.false in
    (c.requires.0, omega (arith, c.requires.1, ap length e))

pub returns : goal.returns
returns c =
    named (condition_sum c.requires.0 c.args.acceptance c.every_set.ensures c.if-acceptance-every_set.false c.all_true.ensures c.if-acceptance-all_true.false c.if-acceptance-eq0.false) c.sum.ensures
