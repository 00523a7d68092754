-- `totality` meets its contract. The invariant: the first p steps stand at the start of the buffer.
use mathlib.Core.Path.{refl, ◌∙◌}
use Rattle.clause_indices.specs.Literals.{stored, wrote_each_none, wrote_each_more, positive_of}
use native.Mathlib.Omega.{arith}
use Rattle.clause_list.proofs.groups.totality.Goals as goal

pub loop-p-init : goal.loop-p-init
loop-p-init c = wrote_each_none _ _ _ (omega arith)

pub loop-p-preserved : goal.loop-p-preserved
loop-p-preserved c = wrote_each_more _ _ c.loop-p.invariant (omega (arith, c.requires.fitting.n_le)) refl (stored c.positive.type_inv ∙ positive_of (c.step_variable.ensures.there c.requires.fitting (c.requires.q_lt_states.0, c.requires.q_lt_states.1, c.loop-p-test.true)) c.positive.ensures)
