-- `search::explore` meets its contract.
use native.Mathlib.Omega.{arith}
use Rattle.compare_shortest.specs.State.{at_root}
use Rattle.compare_shortest.proofs.Exploring.{stopped_far, stopped_end, stopped_hit, goes_on}
use Rattle.compare_shortest.proofs.search.explore.Goals as goal

pub returns-then-bound-depth-clause-explored : goal.returns-then-bound-depth-clause-explored
returns-then-bound-depth-clause-explored c = stopped_far c.loop-here.invariant (omega (arith, c.if-bound-depth.true, c.depth.ensures))

pub returns-in-Some-clause-explored : goal.returns-in-Some-clause-explored
returns-in-Some-clause-explored c =
    stopped_hit c.loop-here.invariant c.loop-here-test.true (omega (arith, c.if-bound-depth.false, c.depth.ensures)) (at_root c.loop-here.invariant.state c.expand-count.ensures.state_2)
    c.expand-count.ensures.lower_bound.0 c.expand-count.ensures.lower_bound.1 c.in-Some.ensures.first c.in-Some.ensures.within

pub loop-here-preserved : goal.loop-here-preserved
loop-here-preserved c =
    goes_on c.loop-here.invariant c.loop-here-test.true (omega (arith, c.if-bound-depth.false, c.depth.ensures)) (at_root c.loop-here.invariant.state c.expand-count.ensures.state_2)
    c.expand-count.ensures.lower_bound.0 c.expand-count.ensures.lower_bound.1 c.in_default.ensures.first (omega arith)

pub returns-clause-explored : goal.returns-clause-explored
returns-clause-explored c = stopped_end c.loop-here.invariant c.loop-here-test.false
