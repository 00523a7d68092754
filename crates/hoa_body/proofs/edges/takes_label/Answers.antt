-- `edges::takes_label` meets its contract.
use Rattle.hoa_body.proofs.EdgeLaws.{takes_label}
use Rattle.hoa_body.proofs.edges.takes_label.Goals as goal

pub returns : goal.returns
returns c = takes_label _
