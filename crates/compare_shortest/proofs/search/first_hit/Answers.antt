-- `search::first_hit` meets its contract.
use mathlib.Core.Path.{sym, ◌∙◌}
use mathlib.Core.Bool.{true≢false}
use native.Mathlib.Omega.{arith}
use Rattle.compare_shortest.specs.FirstHit.{first_nowhere, missed_more, first_here, first_none}
use Rattle.compare_shortest.proofs.search.first_hit.Goals as goal

pub returns-in_err-pair-clause-first : goal.returns-in_err-pair-clause-first
returns-in_err-pair-clause-first c = rw (c.in_err-pair.was, c.from_residual.ensures) (first_nowhere c.requires.0)

pub returns-then-is_hit-clause-first : goal.returns-then-is_hit-clause-first
returns-then-is_hit-clause-first c = rw c.in_ok-pair.was (first_here c.loop-k.invariant c.node.ensures (c.is_hit.ensures.0 c.if-is_hit.true))

pub loop-k-preserved : goal.loop-k-preserved
loop-k-preserved c =
    missed_more c.loop-k.invariant (omega arith) c.node.ensures
    (λ h. true≢false (sym (c.is_hit.ensures.1 h) ∙ c.if-is_hit.false))

pub returns-clause-first : goal.returns-clause-first
returns-clause-first c = rw c.in_ok-pair.was (first_none c.loop-k.invariant (omega arith))
