-- `edges::takes_listed` meets its contract.
use Rattle.hoa_body.proofs.EdgeLaws.{takes_listed, takes_labelled}
use Rattle.hoa_body.proofs.edges.takes_listed.Goals as goal

pub returns-then-not-current : goal.returns-then-not-current
returns-then-not-current c = takes_listed _ _ c.if-not-current.true

pub returns-else-not-current : goal.returns-else-not-current
returns-else-not-current c = takes_labelled _ _ c.if-not-current.false
