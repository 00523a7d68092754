-- `last_variable` meets its contract.
use Rattle.clause_sizes.specs.Sizes.{Fitting}
use Rattle.clause_sizes.specs.Limits.{marks_le, paths_le, last_variable_is}
use native.Mathlib.Omega.{arith}
use Rattle.clause_sizes.proofs.last_variable.Goals as goal

pub overflow_mul-result-4 : goal.overflow_mul-result-4
overflow_mul-result-4 c =
    let fits : Fitting c.args.z = c.fitting.ensures.0 c.if-not-fitting.false in
    omega (arith, paths_le fits)

pub returns : goal.returns
returns c =
    let fits : Fitting c.args.z = c.fitting.ensures.0 c.if-not-fitting.false in
    record { there = λ g. last_variable_is fits; none = λ n. absurd (n fits); small = omega (arith, paths_le fits, marks_le fits) }

pub overflow_add-result : goal.overflow_add-result
overflow_add-result c =
    let fits : Fitting c.args.z = c.fitting.ensures.0 c.if-not-fitting.false in
    omega (arith, paths_le fits, marks_le fits)
