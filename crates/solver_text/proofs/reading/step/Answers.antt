-- `reading::step` meets its contract.
use mathlib.Core.Path.{sym, ◌∙◌}
use Rattle.solver_text.proofs.Laws.{step_ends, step_goes}
use Rattle.solver_text.proofs.reading.step.Goals as goal

pub returns-then-ends_literal : goal.returns-then-ends_literal
returns-then-ends_literal c = step_ends c.args.last c.args.kept c.args.s _ c.args.named.now c.args.b c.scan_byte-next.ensures _ (sym c.ends_literal.ensures ∙ c.if-ends_literal.true) c.end_literal.ensures

pub returns : goal.returns
returns c = step_goes c.args.last c.args.kept c.args.s _ c.args.named.now c.args.b c.scan_byte-next.ensures (sym c.ends_literal.ensures ∙ c.if-ends_literal.false)
