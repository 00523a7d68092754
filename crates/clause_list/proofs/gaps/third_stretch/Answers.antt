-- `gaps::third_stretch` meets its contract.
use Rattle.clause_list.proofs.Places.{indices_lt, entry_is}
use Rattle.clause_list.specs.Stretches.{alone, no_row_lem, no_step}
use Rattle.clause_list.proofs.gaps.third_stretch.Goals as goal

pub returns-then-not-kept : goal.returns-then-not-kept
returns-then-not-kept c =
    no_row_lem c.requires.0 c.args.destinations.now c.indices_of-indices.ensures.0 c.kept.ensures c.indices_of-indices.ensures.1 (c.if-not-kept.true)

pub returns-then-not-kept-2 : goal.returns-then-not-kept-2
returns-then-not-kept-2 c =
    no_step c.requires.0 c.args.destinations.now c.indices_of-indices.ensures.0 c.kept-2.ensures (entry_is (indices_lt c.requires.0 c.indices_of-indices.ensures.1) c.entry.ensures) c.indices_of-indices.ensures.1 (c.if-not-kept-2.true)

pub returns : goal.returns
returns c = alone
