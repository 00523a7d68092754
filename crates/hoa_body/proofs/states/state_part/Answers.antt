-- `states::state_part` meets its contract.
use mathlib.Core.Path.{sym, ◌∙◌}
use native.Mathlib.Omega.{arith}
use Rattle.hoa_body.proofs.StateLaws.{state_undeclared, state_twice, state_first}
use Rattle.hoa_body.proofs.states.state_part.Goals as goal

pub returns-then-state-opened : goal.returns-then-state-opened
returns-then-state-opened c =
    let k = c.in-Number.ensures in
    state_undeclared _ _ _ _ _ _ _ k c.if-state-opened.true

pub returns-then-has : goal.returns-then-has
returns-then-has c =
    let k = c.in-Number.ensures in
    state_twice _ _ _ _ _ _ _ k c.if-state-opened.false c.requires (sym c.has.ensures ∙ c.if-has.true)

pub state_marked-requires : goal.state_marked-requires
state_marked-requires c =
    let k = c.in-Number.ensures in
    (k.lies.to, c.requires.sets_le, omega (arith, c.requires.states_le, c.if-state-opened.false))

pub returns-else-has : goal.returns-else-has
returns-else-has c =
    let k = c.in-Number.ensures in
    state_first _ _ _ _ _ _ _ k c.if-state-opened.false c.requires (sym c.has.ensures ∙ c.if-has.false)
    c.state_marked.result c.state_marked.ensures
