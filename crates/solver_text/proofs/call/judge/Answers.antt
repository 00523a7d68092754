-- `call::judge` meets its contract.
use mathlib.Core.Path.{sym, ◌∙◌}
use mathlib.Core.Bool.{true≢false}
use Rattle.std.proofs.lemmas.Result.{err_from_is_err_and}
use Rattle.solver_text.specs.Objection.{state, call}
use Rattle.solver_text.proofs.CallLaws.{sizing_fits, judged}
use Rattle.solver_text.proofs.call.judge.Goals as goal

pub returns-then-not-in_range : goal.returns-then-not-in_range
returns-then-not-in_range c = state (λ s. true≢false (sym (c.in_range.ensures.1 s) ∙ c.if-not-in_range.true))

pub returns-in_err-measured : goal.returns-in_err-measured
returns-in_err-measured c =
    let p = err_from_is_err_and c.from_residual.result c.from_residual.ensures.1 in
    rw (p.1, p.2) (call (c.in_range.ensures.0 c.if-not-in_range.false) c.in_err-measured.ensures)

pub variables_of-requires : goal.variables_of-requires
variables_of-requires c = sizing_fits c.args.reference c.args.target c.args.reader c.in_ok-measured.measured c.in_ok-measured.ensures

pub returns : goal.returns
returns c =
    judged c.args.reference c.args.target c.args.reader (c.in_range.ensures.0 c.if-not-in_range.false) c.in_ok-measured.measured c.in_ok-measured.ensures c.variables_of.ensures
