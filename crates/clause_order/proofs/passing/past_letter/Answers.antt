-- `passing::past_letter` meets its contract.
use Rattle.std.proofs.Common.{refl, sym, subst}
use Rattle.clause_order.specs.Passes.{Passes, transition_width}
use Rattle.clause_order.proofs.Widths.{letter_passed, letter_wrapped}
use Rattle.clause_order.proofs.passing.past_letter.Goals as goal

pub returns-then-l-z : goal.returns-then-l-z
returns-then-l-z c = letter_passed c.args.z c.args.x c.args.position refl c.if-l-z.true c.past-after.ensures

pub returns : goal.returns
returns c =
    subst (λ y. Passes c.args.z (transition_width c.args.z) c.args.x c.args.position (record { indices = y; position = c.past-after.result })) (sym c.next_state.ensures)
    (letter_wrapped c.args.z c.args.x c.args.position refl c.if-l-z.false refl c.past-after.ensures)
