-- `cells::marks_with` meets its contract.
use mathlib.Core.Path.{ap, ◌∙◌}
use native.Mathlib.Omega.{arith}
use Rattle.meaning.specs.BitSet.{bit}
use Rattle.decode.proofs.Laws.{byte_bit, byte_le, upper_none, upper_more, upper_all, upper_lt}
use Rattle.decode.proofs.cells.marks_with.Goals as goal

pub loop-i-init : goal.loop-i-init
loop-i-init c = upper_none _ _

pub overflow_mul-marks : goal.overflow_mul-marks
overflow_mul-marks c = omega (arith, upper_lt _ _ _ _ c.requires.0.m_le c.loop-i-test.true c.loop-i.invariant)

pub overflow_add-marks : goal.overflow_add-marks
overflow_add-marks c = omega (arith, upper_lt _ _ _ _ c.requires.0.m_le c.loop-i-test.true c.loop-i.invariant, c.from.ensures, byte_le c.marked.result)

pub loop-i-preserved : goal.loop-i-preserved
loop-i-preserved c =
    upper_more _ _ _ _ c.loop-i-test.true (omega arith) c.loop-i.invariant (c.from.ensures ∙ byte_bit c.marked.result ∙ ap bit c.marked.ensures)

pub returns : goal.returns
returns c = upper_all _ _ c.loop-i-test.false c.loop-i.invariant
