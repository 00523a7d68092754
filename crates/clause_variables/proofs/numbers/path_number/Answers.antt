-- `path_number` meets its contract: each digit keeps the number below the product of the bounds.
use native.Mathlib.Omega.{arith}
use Rattle.clause_sizes.specs.Limits.{marks_le}
use Rattle.clause_variables.proofs.Laws.{bounds_of, numbered_path}
use Rattle.clause_variables.proofs.numbers.path_number.Goals as goal

pub overflow_mul-place-2 : goal.overflow_mul-place-2
overflow_mul-place-2 c = omega (arith, (bounds_of c.requires.fitting c.requires.in_file c.row_of-row.ensures c.below.ensures.is).both)

pub overflow_add-place-2 : goal.overflow_add-place-2
overflow_add-place-2 c = omega (arith, (bounds_of c.requires.fitting c.requires.in_file c.row_of-row.ensures c.below.ensures.is).both)

pub overflow_add-result : goal.overflow_add-result
overflow_add-result c = omega (arith, (bounds_of c.requires.fitting c.requires.in_file c.row_of-row.ensures c.below.ensures.is).both)

pub overflow_add-result-2 : goal.overflow_add-result-2
overflow_add-result-2 c = omega (arith, (bounds_of c.requires.fitting c.requires.in_file c.row_of-row.ensures c.below.ensures.is).both, marks_le c.requires.fitting)

pub returns : goal.returns
returns c = numbered_path c.requires.fitting c.requires.in_file c.row_of-row.ensures c.below.ensures.is
