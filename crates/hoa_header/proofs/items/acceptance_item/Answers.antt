-- `items::acceptance_item` meets its contract.
use mathlib.Core.Path.{sym, ◌∙◌}
use Rattle.std.proofs.Common.{Err}
use Rattle.std.proofs.lemmas.Result.{err_from_is_err_and}
use Rattle.hoa_header.proofs.Kept.{sets_first, sets_kept}
use Rattle.hoa_header.proofs.items.acceptance_item.Goals as goal

pub returns-in_err-read : goal.returns-in_err-read
returns-in_err-read c =
    let p = err_from_is_err_and c.from_residual.result c.from_residual.ensures.1 in
    rw (p.1, p.2) (sets_first c.args.text.now c.args.name c.args.at c.args.items (sym c.is_some.ensures ∙ c.if-is_some.false) (Err _) (λ h k. c.in_err-read.ensures h))

pub returns : goal.returns
returns c =
    sets_kept c.args.text.now c.args.name c.args.at c.args.items (sym c.is_some.ensures ∙ c.if-is_some.false) _ _ _ c.in_ok-read.ensures
