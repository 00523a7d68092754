-- `lines::line` meets its contract.
use mathlib.Core.Path.{refl}
use native.Mathlib.Omega.{arith}
use lib.ListN.{get_or}
use Rattle.decimal.specs.Digits.{decimal_at_most_20}
use Rattle.decimal.specs.Writing.{wrote_then, wrote_length}
use Rattle.console_report.proofs.Spacing.{none_yet, one_more, ended, wrote_row}
use Rattle.console_report.proofs.lines.line.Goals as goal

pub loop-n-init : goal.loop-n-init
loop-n-init c = let w = c.word-at.ensures.roomy (omega arith) in none_yet _ _ _ _ (omega (arith, wrote_length w))

pub spaced-at-requires : goal.spaced-at-requires
spaced-at-requires c =
    let w = c.word-at.ensures.roomy (omega arith) in
    omega (arith, decimal_at_most_20 (get_or c.args.numbers.now c.loop-n.n-index 0), c.loop-n.invariant.most, wrote_length c.loop-n.invariant.is, wrote_length w)

pub loop-n-preserved : goal.loop-n-preserved
loop-n-preserved c = one_more _ _ _ _ c.loop-n.invariant c.loop-n-test.true refl (omega (arith, decimal_at_most_20 (get_or c.args.numbers.now c.loop-n.n-index 0))) c.spaced-at.ensures

pub returns : goal.returns
returns c =
    let w = c.word-at.ensures.roomy (omega arith) in
    let b = c.byte.ensures.roomy (omega (arith, c.loop-n.invariant.most, c.loop-n.invariant.some, wrote_length c.loop-n.invariant.is, wrote_length w)) in
    wrote_then w (wrote_row c.args.numbers.now (ended _ _ _ _ c.loop-n.invariant c.loop-n-test.false) b)
