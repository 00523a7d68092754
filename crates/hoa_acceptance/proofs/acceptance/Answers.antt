-- `acceptance` meets its contract.
use Rattle.hoa_acceptance.proofs.AcceptanceLaws.{sets_read_lem}
use Rattle.hoa_acceptance.proofs.acceptance.Goals as goal

pub returns-else-sets-gt-SETS : goal.returns-else-sets-gt-SETS
returns-else-sets-gt-SETS c = sets_read_lem _ _ _ _ _ c.in-Number.ensures c.if-sets-gt-SETS.false c.counted.result c.counted.ensures
