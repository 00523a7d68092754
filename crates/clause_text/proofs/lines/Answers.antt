-- `lines` meets its contract: refusals in document 01's order, then what is found.
use mathlib.Core.Path.{refl, subst}
use native.Mathlib.Omega.{arith}
use Rattle.std.proofs.lemmas.Result.{err_from_is_err_and}
use Rattle.clause_sizes.specs.Measured.{measured_of}
use Rattle.clause_sizes.specs.Sizes.{target_of}
use Rattle.clause_step.specs.Step.{short, outside}
use Rattle.clause_step.specs.Shared.{refused_sizes}
use Rattle.clause_text.specs.Answers.{BatchFound}
use Rattle.clause_text.proofs.lines.Goals as goal

pub returns-then-given-lt-LINE : goal.returns-then-given-lt-LINE
returns-then-given-lt-LINE c = (short c.if-given-lt-LINE.true, refl)

pub returns-then-position-gt-LAST : goal.returns-then-position-gt-LAST
returns-then-position-gt-LAST c = (outside (omega arith) (λ (v, i). omega arith), refl)

pub returns-in_err-measured : goal.returns-in_err-measured
returns-in_err-measured c =
    let p = err_from_is_err_and c.from_residual.result c.from_residual.ensures.1 in
    rw (p.1, p.2) (refused_sizes (omega arith) (omega arith) c.in_err-measured.ensures, refl)

pub many_lines-requires : goal.many_lines-requires
many_lines-requires c =
    let (v, i, e, l) = c.in_ok-measured.ensures in
    record { measured = measured_of v i e; in_bounds = omega arith }

pub returns : goal.returns
returns c =
    let (v, i, q, l) = c.in_ok-measured.ensures in (
      record { room = omega arith; valid = v; in_range = omega arith; proper = i },
      subst (λ z. BatchFound c.args.reference (target_of z) c.args.position c.args.text.now c.many_lines.new.text c.many_lines.result.written c.many_lines.result.position) q c.many_lines.ensures,
    )
