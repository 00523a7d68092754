-- `cells::marked` meets its contract.
use Rattle.decode.specs.Kept.{mark_slot}
use Rattle.decode.proofs.cells.marked.Goals as goal

pub bounds-named-mark_variable : goal.bounds-named-mark_variable
bounds-named-mark_variable c =
    mark_slot c.requires.fitting _ _ _ _ c.requires.in_file (c.mark_variable.ensures.there c.requires.fitting c.requires.in_file).is
