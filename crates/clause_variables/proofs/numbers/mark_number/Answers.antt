-- `mark_number` meets its contract: each digit keeps the number below the product of the bounds.
use Rattle.clause_sizes.specs.Limits.{steps_le}
use Rattle.clause_variables.proofs.Laws.{mark_lt, mark_is}
use native.Mathlib.Omega.{arith}
use Rattle.clause_variables.proofs.numbers.mark_number.Goals as goal

pub returns : goal.returns
returns c = record {
  is = mark_is c.requires.fitting _ _ _ _;
  some = omega arith;
  small = omega (arith, mark_lt c.requires.fitting c.requires.in_file, steps_le c.requires.fitting);
}
