-- `unlabelled` meets its contract.
use Rattle.hoa_edges.proofs.EdgeLaws.{arrived}
use Rattle.hoa_edges.proofs.unlabelled.Goals as goal

pub returns-then-destination-states : goal.returns-then-destination-states
returns-then-destination-states c =
    arrived _ _ _ _ _ c.if-sets-gt-SETS.false _ _ _ c.in-Number.ensures c.if-destination-states.true c.marked.result c.marked.ensures
