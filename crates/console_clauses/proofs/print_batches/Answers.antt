-- `print_batches` meets its contract, and ends: each batch leaves fewer clauses.
use Rattle.std.proofs.Common.{◌+◌, true, false, refl, sym, subst, arith}
use Rattle.console_clauses.specs.declared.Printout.TheVariants.{Whole, Cut}
use Rattle.console_clauses.specs.Left.{start_le}
use Rattle.console_clauses.specs.Batch.{Begun, begun, begun_more, all_handed}
use Rattle.console_clauses.proofs.print_batches.Goals as goal

pub loop-length-init : goal.loop-length-init
loop-length-init c =
    let k = c.args.header in (
      subst (λ x. Begun c.args.reference c.args.target k x k) (sym c.fresh-position.ensures) (begun c.args.reference c.args.target k),
      start_le c.requires.valid c.requires.proper c.requires.header_bound _,
      omega (arith, c.fresh-position.ensures),
    )

pub loop-length-preserved : goal.loop-length-preserved
loop-length-preserved c =
    let l = c.loop-length.invariant in
    let h = c.in-More.ensures in
    (begun_more c.args.reference c.args.target l.0 h, omega (arith, l.1, h.most, h.fewer), h.stays)

pub returns-in-Ended : goal.returns-in-Ended
returns-in-Ended c =
    all_handed c.args.reference c.args.target c.loop-length.invariant.0 true c.in-Ended.ensures (Whole c.loop-length.bytes) (omega arith) refl refl

pub returns-in-Failed : goal.returns-in-Failed
returns-in-Failed c =
    all_handed c.args.reference c.args.target c.loop-length.invariant.0 false c.in-Failed.ensures.0 (Cut (c.loop-length.bytes + c.in-Failed.length)) refl refl refl
