-- `step` meets its contract: refusals in document 01's order, then what is found.
use mathlib.Core.Path.{refl, subst}
use Rattle.std.proofs.lemmas.Result.{err_from_is_err_and}
use native.Mathlib.Omega.{arith}
use Rattle.clause_sizes.specs.Sizes.{target_of}
use Rattle.clause_step.specs.Step.{short, outside, StepFound}
use Rattle.clause_step.specs.Shared.{refused_sizes}
use Rattle.clause_step.proofs.step.Goals as goal

pub returns-then-given-lt-CLAUSE : goal.returns-then-given-lt-CLAUSE
returns-then-given-lt-CLAUSE c = (short c.if-given-lt-CLAUSE.true, refl)

pub returns-then-position-gt-LAST : goal.returns-then-position-gt-LAST
returns-then-position-gt-LAST c = (outside (omega arith) (λ (v, i). omega arith), refl)

pub returns-in_err-measured : goal.returns-in_err-measured
returns-in_err-measured c =
    let p = err_from_is_err_and c.from_residual.result c.from_residual.ensures.1 in
    rw (p.1, p.2) (refused_sizes (omega arith) (omega arith) c.in_err-measured.ensures, refl)

pub returns : goal.returns
returns c =
    let (v, i, q, l) = c.in_ok-measured.ensures in (
      record { room = omega arith; valid = v; in_range = omega arith; proper = i },
      subst (λ z. StepFound c.args.reference (target_of z) c.args.position c.args.clause.now c.find.new.clause c.find.result.written c.find.result.position) q c.find.ensures,
    )
