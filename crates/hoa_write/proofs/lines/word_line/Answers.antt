-- `word_line` meets its contract.
use native.Mathlib.Omega.{arith}
use Rattle.decimal.specs.Writing.{roomy_then}
use Rattle.hoa_write.proofs.lines.word_line.Goals as goal

pub returns : goal.returns
returns c = roomy_then c.word-at.ensures.roomy c.byte.ensures.roomy (omega (arith, c.requires))
