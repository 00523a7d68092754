-- `positions` meets its contract.
use Rattle.clause_indices.proofs.Extents.{moves_le, product_le, third_le, first_le, extent_is}
use native.Mathlib.Omega.{arith}
use Rattle.clause_indices.proofs.extent.positions.Goals as goal

pub overflow_mul-third-2 : goal.overflow_mul-third-2
overflow_mul-third-2 c = omega (arith, product_le c.requires)

pub overflow_mul-third-3 : goal.overflow_mul-third-3
overflow_mul-third-3 c = omega (arith, third_le c.requires)

pub overflow_mul-result : goal.overflow_mul-result
overflow_mul-result c = omega (arith, first_le c.requires, moves_le c.requires, third_le c.requires, product_le c.requires)

pub overflow_add-result-3 : goal.overflow_add-result-3
overflow_add-result-3 c = omega (arith, first_le c.requires, moves_le c.requires, third_le c.requires, product_le c.requires)

pub overflow_add-result-4 : goal.overflow_add-result-4
overflow_add-result-4 c = omega (arith, first_le c.requires, moves_le c.requires, third_le c.requires, product_le c.requires)

pub overflow_add-result-5 : goal.overflow_add-result-5
overflow_add-result-5 c = omega (arith, first_le c.requires, moves_le c.requires, third_le c.requires, product_le c.requires)

pub returns : goal.returns
returns c = extent_is c.requires
