-- `labelled` meets its contract.
use Rattle.hoa_edges.proofs.EdgeLaws.{closed}
use Rattle.hoa_edges.proofs.labelled.Goals as goal

pub returns : goal.returns
returns c = closed c.args.text.now c.args.at c.args.states c.args.sets c.args.set _ c.in-Some.ensures c.unlabelled.result c.unlabelled.ensures
