-- `rows_with` meets its contract.
use mathlib.Core.Path.{◌≡◌, subst}
use Rattle.std.proofs.Common.{arith, rules}
use Rattle.meaning.specs.CountingLaws.{filled_all}
use Rattle.meaning.specs.Counting.{total}
use Rattle.clause_rows.specs.Rows.{held, sums_before}
use Rattle.clause_rows.proofs.Laws.{summed_none, summed_more}
use Rattle.clause_rows.proofs.rows_with.Goals as goal

pub loop-u-init : goal.loop-u-init
loop-u-init c = summed_none _ _ (search rules)

pub overflow_cast-before : goal.overflow_cast-before
overflow_cast-before c = omega (arith, c.loop-u.invariant.sum_le)

pub bounds-before-u : goal.bounds-before-u
bounds-before-u c = omega (arith, c.loop-u.invariant.filled.size)

pub overflow_add-pairs : goal.overflow_add-pairs
overflow_add-pairs c = omega (arith, c.loop-u.invariant.sum_le, c.below-pairs.ensures.bounded)

pub loop-u-preserved : goal.loop-u-preserved
loop-u-preserved c = summed_more _ _ _ _ c.loop-u.invariant (omega arith) c.below-pairs.ensures.is

pub returns : goal.returns
returns c =
    let e : c.loop-u.u ≡ 16 = omega arith in
    let p : c.loop-u.pairs ≡ total 16 (held c.args.sets) = subst (λ u. c.loop-u.pairs ≡ total u (held c.args.sets)) e c.loop-u.invariant.sum_is in
    let b : c.loop-u.before ≡ sums_before c.args.sets = filled_all _ 16 _ _ c.loop-u.invariant.filled (omega arith) in
    rw (p, b)
