-- `literals` meets its contract.
use mathlib.Core.Path.{◌∙◌}
use Rattle.clause_indices.specs.Literals.{stored, wrote_two_then, negative_of}
use native.Mathlib.Omega.{arith}
use Rattle.clause_indices.proofs.premise.literals.Goals as goal

pub returns : goal.returns
returns c =
    let w = c.requires.within.0 in
    wrote_two_then (omega arith) (stored c.negative.type_inv ∙ negative_of c.requires.within.1 c.negative.ensures)
    (stored c.negative-2.type_inv ∙ negative_of (c.step_variable.ensures.there c.requires.fitting (w.p_lt, w.l_lt, w.t_lt)) c.negative-2.ensures)
    c.marks.ensures
