-- `parts::spaced` meets its contract.
use native.Mathlib.Omega.{arith}
use Rattle.decimal.specs.Writing.{roomy_then}
use Rattle.console_report.proofs.parts.spaced.Goals as goal

pub returns : goal.returns
returns c = roomy_then c.byte-next.ensures.roomy c.write.ensures.roomy (omega arith)
