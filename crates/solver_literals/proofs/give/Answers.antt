-- `give` meets its contract.
use mathlib.Core.Path.{◌≡◌, ◌∙◌}
use mir.Syntax.{w32}
use mir.Val.{to_z, of_z}
use mir.ValLaws.{to_z-of_z}
use Rattle.solver_scan.specs.SolverText.{literal_of}
use Rattle.solver_literals.specs.Literals.{held_yes, held_past, held_outside, given_past, given_other, given_literal}
use Rattle.solver_literals.proofs.give.Goals as goal

pub returns-then-last-v : goal.returns-then-last-v
returns-then-last-v c = given_past c.args.minus c.args.v c.args.named.now c.if-last-v.true

pub returns-then-kept-v : goal.returns-then-kept-v
returns-then-kept-v c = given_other c.args.minus c.args.v c.args.named.now c.if-last-v.false (held_past c.args.kept c.args.v c.if-kept-v.true)

pub returns-then-v-gt-VARIABLES : goal.returns-then-v-gt-VARIABLES
returns-then-v-gt-VARIABLES c = given_other c.args.minus c.args.v c.args.named.now c.if-last-v.false (held_outside c.args.kept c.args.v c.if-v-gt-VARIABLES.true)

pub returns : goal.returns
returns c =
    let literal : to_z w32 (of_z w32 c.literal_of.result) ≡ literal_of c.args.minus c.args.v = to_z-of_z w32 c.literal_of.result (record { sfits = c.literal_of.type_inv }) ∙ c.literal_of.ensures in
    given_literal c.args.minus c.args.v c.args.named.now literal c.if-last-v.false (held_yes c.args.kept c.args.v c.if-kept-v.false c.if-v-gt-VARIABLES.false) c.place.ensures
