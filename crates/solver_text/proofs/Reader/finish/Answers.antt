-- `Reader::finish` meets its contract.
use Rattle.solver_text.proofs.CallLaws.{called_refused}
use Rattle.solver_text.proofs.Reader.finish.Goals as goal

pub returns-in-Err : goal.returns-in-Err
returns-in-Err c =
    called_refused _ _ _ (c.in-Err.ensures) c.refused.ensures
