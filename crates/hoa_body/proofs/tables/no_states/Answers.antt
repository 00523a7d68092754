-- `tables::no_states` meets its contract.
use Rattle.hoa_body.proofs.TableLaws.{holds_none}
use Rattle.hoa_body.proofs.tables.no_states.Goals as goal

pub returns : goal.returns
returns c = (holds_none _, tt)
