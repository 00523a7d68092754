-- `measured` meets its contract.
use native.Mathlib.Nat.{mul-le-mul}
use Rattle.clause_sizes.specs.Limits.{square_le}
use Rattle.clause_sizes.proofs.Laws.{measured_is}
use native.Mathlib.Omega.{arith}
use Rattle.clause_sizes.proofs.measured.Goals as goal

pub overflow_mul-steps : goal.overflow_mul-steps
overflow_mul-steps c = omega (arith, mul-le-mul c.requires.0.n_le c.requires.0.n_le)

pub overflow_mul-steps-2 : goal.overflow_mul-steps-2
overflow_mul-steps-2 c = omega (arith, square_le c.requires.0.n_le c.power_of_two-letters.ensures.bounded.1)

pub overflow_mul-result : goal.overflow_mul-result
overflow_mul-result c = omega (arith, square_le c.requires.0.n_le c.power_of_two-letters.ensures.bounded.1, mul-le-mul (square_le c.requires.0.n_le c.power_of_two-letters.ensures.bounded.1) c.requires.0.m_le)

pub overflow_add-result : goal.overflow_add-result
overflow_add-result c = omega (arith, square_le c.requires.0.n_le c.power_of_two-letters.ensures.bounded.1, mul-le-mul (square_le c.requires.0.n_le c.power_of_two-letters.ensures.bounded.1) c.requires.0.m_le)

pub returns : goal.returns
returns c = measured_is c.requires.0.m_le c.requires.1 c.requires.2 c.power_of_two-letters.ensures.is c.power_of_two.ensures.is c.power_of_two-2.ensures.is
