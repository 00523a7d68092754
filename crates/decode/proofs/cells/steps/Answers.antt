-- `cells::steps` meets its contract.
use Rattle.decode.specs.Kept.{step_slot}
use Rattle.decode.proofs.cells.steps.Goals as goal

pub bounds-named-step_variable : goal.bounds-named-step_variable
bounds-named-step_variable c =
    step_slot c.requires.fitting _ _ _ c.requires.in_file (c.step_variable.ensures.there c.requires.fitting c.requires.in_file).is
