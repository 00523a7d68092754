-- `marks` meets its contract. The invariant: the marks of the first i sets stand after the first two places.
use mathlib.Core.Path.{◌∙◌}
use Rattle.clause_indices.specs.Literals.{stored, wrote_each_none, wrote_each_more}
use native.Mathlib.Omega.{arith}
use Rattle.clause_indices.proofs.premise.marks.Goals as goal

pub loop-i-init : goal.loop-i-init
loop-i-init c = wrote_each_none _ _ _ (omega arith)

pub loop-i-preserved : goal.loop-i-preserved
loop-i-preserved c = wrote_each_more _ _ c.loop-i.invariant (omega (arith, c.requires.fitting.m_le)) (omega arith) (stored c.mark_literal.type_inv ∙ c.mark_literal.ensures)
