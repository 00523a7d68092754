-- `extension` meets its contract.
use mathlib.Core.Path.{◌∙◌}
use Rattle.decimal.specs.Writing.{wrote_length}
use Rattle.clause_indices.specs.Literals.{stored, wrote_after, premise_short, positive_of}
use native.Mathlib.Omega.{arith}
use Rattle.clause_list.proofs.groups.extension.Goals as goal

pub bounds-out-at : goal.bounds-out-at
bounds-out-at c =
    let f = c.requires.fitting in
    let l = c.requires.clause_room_in_bounds in
    let p = c.premise-at.ensures.there f c.requires.within.0 c.requires.within.1 l in
    omega (arith, premise_short _ _ f p l, wrote_length p)

pub returns : goal.returns
returns c =
    let f = c.requires.fitting in
    let l = c.requires.clause_room_in_bounds in
    let p = c.premise-at.ensures.there f c.requires.within.0 c.requires.within.1 l in
    let x = c.path_variable.ensures.there f c.requires.within.2 in
    wrote_after p (premise_short _ _ f p l) (stored c.positive.type_inv ∙ positive_of x c.positive.ensures)
