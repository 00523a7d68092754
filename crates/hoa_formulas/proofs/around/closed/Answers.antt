-- `around::closed` meets its contract.
use Rattle.hoa_formulas.proofs.Laws.{stays_open}
use Rattle.hoa_formulas.proofs.Choices.{no_sign}
use Rattle.hoa_formulas.proofs.around.closed.Goals as goal

pub returns-in_default : goal.returns-in_default
returns-in_default c =
    stays_open c.args.read _ (no_sign _ _ _ c.formula_token.ensures 41 (c.in_default.not-Close _)) _ c.offset.ensures
