-- `last_digit` meets its contract.
use native.Mathlib.Omega.{arith}
use Rattle.decimal.specs.Spelling.{wrote_digit}
use Rattle.decimal.proofs.last_digit.Goals as goal

pub returns : goal.returns
returns c = wrote_digit c.args.dst.now c.args.rest.at c.args.rest.number (omega (arith, c.requires.room))
