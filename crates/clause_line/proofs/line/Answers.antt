-- `line` meets its contract: refusals in document 01's order, then what the clause step answered.
use mathlib.Core.Path.{refl, sym}
use lib.Seq.{length-take-le}
use Rattle.std.proofs.lemmas.Result.{err_from_is_err_and}
use Rattle.clause_step.specs.Step.{short}
use Rattle.clause_line.proofs.Answering.{turned_down, line_none, clause_room_lem, line_written}
use Rattle.clause_line.proofs.line.Goals as goal

pub returns-then-given-lt-LINE : goal.returns-then-given-lt-LINE
returns-then-given-lt-LINE c = (short c.if-given-lt-LINE.true, refl)

pub returns-in_err-handed : goal.returns-in_err-handed
returns-in_err-handed c =
    let p = err_from_is_err_and c.from_residual.result c.from_residual.ensures.1 in
    rw (p.1, p.2) (turned_down c.args.reference c.args.target c.args.position c.args.text.now c.if-given-lt-LINE.false c.in_err-handed.ensures.0, refl)

pub returns-in_default : goal.returns-in_default
returns-in_default c = line_none c.args.reference c.args.target c.args.position c.args.text.now c.if-given-lt-LINE.false _ c.in_ok-handed.handed c.in_ok-handed.ensures c.in_default.not-Some

pub slice_bounds-clause-end : goal.slice_bounds-clause-end
slice_bounds-clause-end c = clause_room_lem c.args.reference c.args.target c.args.position c.args.text.now c.if-given-lt-LINE.false _ c.in_ok-handed.handed c.in_ok-handed.ensures c.in-Some.is

pub slice_bounds-write_line-end : goal.slice_bounds-write_line-end
slice_bounds-write_line-end c = sym (length-take-le _ _ (clause_room_lem c.args.reference c.args.target c.args.position c.args.text.now c.if-given-lt-LINE.false _ c.in_ok-handed.handed c.in_ok-handed.ensures c.in-Some.is))

pub returns : goal.returns
returns c = line_written c.args.reference c.args.target c.args.position c.args.text.now c.if-given-lt-LINE.false _ c.in_ok-handed.handed c.in_ok-handed.ensures c.in-Some.is c.write_line-end.ensures
