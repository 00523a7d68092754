-- `edges::first_edge` meets its contract.
use Rattle.hoa_body.proofs.EdgeLaws.{edge_second, edge_first}
use Rattle.hoa_body.proofs.edges.first_edge.Goals as goal

pub returns-then-second-letters : goal.returns-then-second-letters
returns-then-second-letters c =
    edge_second _ _ c.args.table c.args.counted c.requires.0 c.requires.1 _ _ c.power_of_two-letters.ensures.is c.power_of_two-letters.ensures.bounded.1 c.lowest-second.ensures c.if-second-letters.true

pub returns : goal.returns
returns c =
    edge_first _ _ c.args.table c.args.counted c.requires.0 c.requires.1 _ _ c.power_of_two-letters.ensures.is c.power_of_two-letters.ensures.bounded.1 c.lowest-second.ensures c.if-second-letters.false
