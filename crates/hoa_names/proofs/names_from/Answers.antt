-- `names_from` meets its contract.
use native.Mathlib.Omega.{arith}
use Rattle.std.proofs.lemmas.Result.{err_from_is_err_and}
use Rattle.hoa_names.proofs.Text.{so_far_none, so_far_done, so_far_roomy, so_far_refused, so_far_more}
use Rattle.hoa_names.proofs.names_from.Goals as goal

pub loop-i-init : goal.loop-i-init
loop-i-init c =
    (c.requires.1, so_far_none c.args.text.now c.args.at c.args.count c.requires.1 c.requires.0 c.requires.2 _ c.none.ensures)

pub name-requires : goal.name-requires
name-requires c =
    so_far_roomy c.args.text.now c.args.at c.args.count c.loop-i.invariant.0 _ _ _ c.loop-i.invariant.1 c.loop-i-test.true

pub returns-in_err-read : goal.returns-in_err-read
returns-in_err-read c =
    let p = err_from_is_err_and c.from_residual.result c.from_residual.ensures.1 in
    rw (p.1, p.2) (so_far_refused c.args.text.now c.args.at c.args.count c.loop-i.invariant.0 _ _ _ c.loop-i.invariant.1 c.loop-i-test.true _ c.in_err-read.ensures)

pub loop-i-preserved : goal.loop-i-preserved
loop-i-preserved c =
    (c.loop-i.invariant.0, so_far_more c.args.text.now c.args.at c.args.count c.loop-i.invariant.0 _ _ _ c.loop-i.invariant.1 c.loop-i-test.true _ c.in_ok-read.ensures)

pub returns : goal.returns
returns c =
    so_far_done c.args.text.now c.args.at c.args.count c.loop-i.invariant.0 _ _ _ c.loop-i.invariant.1 (omega arith)
