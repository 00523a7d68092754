-- `reading::end_literal` meets its contract.
use Rattle.solver_text.proofs.Laws.{literal_fits, literal_unfit}
use Rattle.solver_text.proofs.reading.end_literal.Goals as goal

pub returns-then-give : goal.returns-then-give
returns-then-give c = literal_fits c.args.last c.args.kept c.args.s c.args.next c.args.named.now _ _ c.give.ensures c.if-give.true

pub returns : goal.returns
returns c = rw c.unfit.ensures (literal_unfit c.args.last c.args.kept c.args.s c.args.next c.args.named.now _ _ c.give.ensures c.if-give.false)
