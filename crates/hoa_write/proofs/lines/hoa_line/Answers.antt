-- `hoa_line` meets its contract.
use native.Mathlib.Omega.{arith}
use Rattle.decimal.specs.Writing.{roomy_then}
use Rattle.hoa_write.proofs.lines.hoa_line.Goals as goal

pub returns : goal.returns
returns c = roomy_then c.word-at.ensures.roomy (roomy_then c.byte-at.ensures.roomy (roomy_then c.word-at-2.ensures.roomy c.byte.ensures.roomy)) (omega (arith, c.requires))
