-- `byte` meets its contract.
use native.Mathlib.Omega.{arith}
use Rattle.decimal.specs.Writing.{wrote_one, wrote_roomy, wrote_short}
use Rattle.pieces.proofs.byte.Goals as goal

pub returns-then-at-out : goal.returns-then-at-out
returns-then-at-out c = wrote_roomy (wrote_one _ _ _ c.if-at-out.true)

pub returns : goal.returns
returns c = wrote_short _ _ _ (omega arith)
