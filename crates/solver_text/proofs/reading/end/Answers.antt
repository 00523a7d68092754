-- `reading::end` meets its contract.
use mathlib.Core.Path.{sym, ◌∙◌}
use Rattle.solver_text.proofs.Laws.{end_literal, end_plain}
use Rattle.solver_text.proofs.reading.end.Goals as goal

pub returns-then-in_literal : goal.returns-then-in_literal
returns-then-in_literal c = end_literal c.args.last c.args.kept c.args.s _ c.args.named.now c.scan_end-ended.ensures _ (sym c.in_literal.ensures ∙ c.if-in_literal.true) c.end_literal.ensures

pub returns : goal.returns
returns c = end_plain c.args.last c.args.kept c.args.s _ c.args.named.now c.scan_end-ended.ensures (sym c.in_literal.ensures ∙ c.if-in_literal.false)
