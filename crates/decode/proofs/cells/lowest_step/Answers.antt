-- `cells::lowest_step` meets its contract.
use mathlib.Core.Path.{sym, ◌∙◌}
use native.Mathlib.Omega.{arith}
use lib.Dec.{eqb}
use lib.ListN.{get_or}
use Rattle.encoding.specs.Variables.{step}
use Rattle.encoding.specs.Clauses.{destination}
use Rattle.encoding.specs.Lowest.{lowest_is, lowest_none}
use Rattle.clause_sizes.specs.Numbers.{number_of}
use Rattle.decode.proofs.cells.lowest_step.Goals as goal

pub returns-then-steps : goal.returns-then-steps
unfolding destination
returns-then-steps c = (c.loop-p-test.true, lowest_is _ _ _ c.loop-p-test.true (sym c.steps.ensures ∙ c.if-steps.true) c.loop-p.invariant)

pub returns : goal.returns
unfolding destination
returns c =
    omega (arith, lowest_none c.args.z.candidate.states (λ p. eqb (get_or c.args.named.now (number_of c.args.z (step c.args.q.0 c.args.l p)) 0) 1) (λ j h. c.loop-p.invariant j (omega (arith, c.loop-p-test.false))))
