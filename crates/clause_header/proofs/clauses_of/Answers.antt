-- `clauses_of` meets its contract.
use Rattle.clause_sizes.specs.Sizes.{Fitting}
use Rattle.clause_indices.specs.Indices.{ExtentOf}
use Rattle.clause_list.specs.Measured.{measured_tables}
use Rattle.clause_header.proofs.Counting.{candidates_le, three_le, two_sets_le, markings_le, third_factor_le, third_le, fourth_le, clauses_are}
use native.Mathlib.Omega.{arith}
use Rattle.clause_header.proofs.clauses_of.Goals as goal

pub overflow_mul-markings : goal.overflow_mul-markings
overflow_mul-markings c =
    let fits : Fitting c.args.z = (measured_tables c.requires).fits in
    omega (arith, two_sets_le fits)

pub overflow_mul-markings-2 : goal.overflow_mul-markings-2
overflow_mul-markings-2 c =
    let fits : Fitting c.args.z = (measured_tables c.requires).fits in
    omega (arith, markings_le fits)

pub overflow_mul-third : goal.overflow_mul-third
overflow_mul-third c =
    let fits : Fitting c.args.z = (measured_tables c.requires).fits in
    omega (arith, candidates_le fits)

pub overflow_mul-third-2 : goal.overflow_mul-third-2
overflow_mul-third-2 c =
    let fits : Fitting c.args.z = (measured_tables c.requires).fits in
    omega (arith, three_le fits)

pub overflow_mul-third-3 : goal.overflow_mul-third-3
overflow_mul-third-3 c =
    let fits : Fitting c.args.z = (measured_tables c.requires).fits in
    omega (arith, third_factor_le fits)

pub sharing-requires : goal.sharing-requires
sharing-requires c =
    let fits : Fitting c.args.z = (measured_tables c.requires).fits in
    fits

pub overflow_mul-third-4 : goal.overflow_mul-third-4
overflow_mul-third-4 c =
    let fits : Fitting c.args.z = (measured_tables c.requires).fits in
    omega (arith, third_le fits c.sharing.ensures.1)

pub overflow_mul-fourth : goal.overflow_mul-fourth
overflow_mul-fourth c =
    let fits : Fitting c.args.z = (measured_tables c.requires).fits in
    omega (arith, candidates_le fits)

pub closure_count-requires : goal.closure_count-requires
closure_count-requires c = let t = measured_tables c.requires in (t.fits, t.step_lt)

pub overflow_mul-fourth-2 : goal.overflow_mul-fourth-2
overflow_mul-fourth-2 c =
    let fits : Fitting c.args.z = (measured_tables c.requires).fits in
    omega (arith, fourth_le fits c.closure_count.ensures.1)

pub overflow_add-result : goal.overflow_add-result
overflow_add-result c =
    let fits : Fitting c.args.z = (measured_tables c.requires).fits in
    let extent : ExtentOf c.args.z c.extent_of-g.result = c.extent_of-g.ensures.there fits in
    let e = extent in omega (arith, e.all_is, e.all_le)

pub overflow_add-result-2 : goal.overflow_add-result-2
overflow_add-result-2 c =
    let fits : Fitting c.args.z = (measured_tables c.requires).fits in
    let extent : ExtentOf c.args.z c.extent_of-g.result = c.extent_of-g.ensures.there fits in
    let e = extent in omega (arith, e.all_is, e.all_le, third_le fits c.sharing.ensures.1)

pub overflow_add-result-3 : goal.overflow_add-result-3
overflow_add-result-3 c =
    let fits : Fitting c.args.z = (measured_tables c.requires).fits in
    let extent : ExtentOf c.args.z c.extent_of-g.result = c.extent_of-g.ensures.there fits in
    let e = extent in
    omega (arith, e.all_is, e.all_le, third_le fits c.sharing.ensures.1, fourth_le fits c.closure_count.ensures.1)

pub returns : goal.returns
returns c =
    let fits : Fitting c.args.z = (measured_tables c.requires).fits in
    let extent : ExtentOf c.args.z c.extent_of-g.result = c.extent_of-g.ensures.there fits in
    clauses_are c.requires extent c.sharing.ensures.0 c.closure_count.ensures.0
