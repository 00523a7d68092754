-- `firsts::row_in` meets its contract: each digit keeps the number below the product of the bounds.
use Prim.Native.Nat.{◌+◌, ◌≤◌}
use native.Mathlib.Omega.{arith}
use Rattle.clause_sizes.specs.Limits.{marks_le}
use Rattle.clause_sizes.specs.Numbers.{before, in_row}
use Rattle.clause_variables.proofs.FirstLaws.{row_le, cut_of, row_of_first}
use Rattle.clause_variables.proofs.firsts.row_in.Goals as goal

pub overflow_mul-result : goal.overflow_mul-result
overflow_mul-result c =
    omega (arith, (row_le c.requires.fitting c.requires.q_lt_states.0 c.requires.q_lt_states.2 c.if-row-pairs.false).both)

pub overflow_add-result : goal.overflow_add-result
overflow_add-result c =
    omega (arith, (row_le c.requires.fitting c.requires.q_lt_states.0 c.requires.q_lt_states.2 c.if-row-pairs.false).both)

pub overflow_add-result-2 : goal.overflow_add-result-2
overflow_add-result-2 c =
    omega (arith, (row_le c.requires.fitting c.requires.q_lt_states.0 c.requires.q_lt_states.2 c.if-row-pairs.false).both, marks_le c.requires.fitting)

pub returns : goal.returns
returns c =
    let within : before c.args.z c.args.u.0 + in_row c.args.z c.args.u.0 ≤ c.args.z.paths.pairs = omega (arith, c.row_of-row.ensures.before_is, c.row_of-row.ensures.size_is, c.if-row-pairs.false) in
    row_of_first c.requires.fitting _ _ _ _ _ _ c.requires.q_lt_states.0 c.requires.q_lt_states.1 c.requires.q_lt_states.2 within (cut_of c.row_of-row.ensures.set_is c.cut.ensures) c.row_of-row.ensures.before_is c.row_of-row.ensures.size_is
