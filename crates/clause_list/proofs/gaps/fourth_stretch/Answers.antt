-- `gaps::fourth_stretch` meets its contract.
use Rattle.clause_list.proofs.Places.{transition_lt, entry_is, step_lt}
use Rattle.clause_list.specs.Stretches.{alone, no_closing}
use Rattle.clause_list.proofs.gaps.fourth_stretch.Goals as goal

pub returns-then-not-kept : goal.returns-then-not-kept
returns-then-not-kept c =
    let d = entry_is (transition_lt c.requires.0 c.transition_at-a.ensures) c.entry.ensures in
    no_closing c.requires.0 c.args.destinations.now c.marking_at-s.ensures c.transition_at-a.ensures d c.kept.ensures (step_lt c.requires.0 c.args.destinations.now c.requires.1 c.transition_at-a.ensures d) (c.if-not-kept.true)

pub returns : goal.returns
returns c = alone
