-- `closure_count` meets its contract. The invariant: the sum over the first y transitions.
use mathlib.Core.Path.{◌≡◌, ap₂, ◌∙◌}
use Prim.Native.Nat.{◌*◌}
use Rattle.meaning.specs.Counting.{total}
use Rattle.clause_header.specs.ClosureCount.{closures_at}
use Rattle.clause_header.proofs.Counting.{transitions_le, step_lt, transition_counted, total_none, total_more}
use native.Mathlib.Omega.{arith}
use Rattle.clause_header.proofs.closure_count.Goals as goal

pub loop-y-init : goal.loop-y-init
loop-y-init c = (total_none _, omega arith)

pub closures_from-count-requires : goal.closures_from-count-requires
closures_from-count-requires c =
    (c.requires.0, c.yes_pairs-accepted.ensures.1, step_lt c.requires.0 c.args.destinations.now _ (omega arith) c.requires.1 c.entry.ensures)

pub loop-y-preserved : goal.loop-y-preserved
loop-y-preserved c =
    let one = transition_counted c.requires.0 c.args.destinations.now _ (omega arith) c.args.marks.now _
    c.entry.ensures c.entry-in-loop-y.ensures c.closures_from-count.ensures.0 in
    (total_more _ _ c.loop-y.invariant.0 one, omega (arith, c.closures_from-count.ensures.1))

pub returns : goal.returns
returns c =
    let e : c.loop-y.y ≡ c.args.z.reference.states * c.args.z.letters = omega arith in
    (c.loop-y.invariant.0 ∙ ap₂ (λ i k. total i (closures_at c.args.z c.args.destinations.now c.args.marks.now k)) e c.yes_pairs-accepted.ensures.0, omega (arith, transitions_le c.requires.0))
