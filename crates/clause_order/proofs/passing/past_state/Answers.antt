-- `passing::past_state` meets its contract.
use Rattle.std.proofs.Common.{refl, sym, subst}
use Rattle.clause_order.specs.Passes.{Passes, state_width}
use Rattle.clause_order.proofs.Widths.{state_passed}
use Rattle.clause_order.proofs.passing.past_state.Goals as goal

pub returns : goal.returns
returns c =
    subst (λ y. Passes c.args.z (state_width c.args.z) c.args.x c.args.position (record { indices = y; position = c.past.result })) (sym c.next_state.ensures)
    (state_passed c.args.z c.args.x c.args.position refl c.past.ensures)
