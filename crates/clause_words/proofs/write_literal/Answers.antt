-- `write_literal` meets its contract.
use mathlib.Core.Path.{◌≡◌, ap, ◌∙◌}
use Prim.Native.Nat.{ℕ}
use lib.IntN.{ℤ, nat_abs}
use mir.Syntax.{w32}
use mir.Val.{SFits, to_z, of_z}
use mir.ValLaws.{to_z-of_z}
use Rattle.clause_words.proofs.Spelling.{negative_room, wrote_negative, wrote_other}
use Rattle.decimal.specs.Writing.{wrote_length}
use native.Mathlib.Omega.{arith}
use Rattle.clause_words.proofs.write_literal.Goals as goal

variable_is : {literal : ℤ} {variable : ℕ} → SFits w32 literal → variable ≡ nat_abs (to_z w32 (of_z w32 literal)) → variable ≡ nat_abs literal
variable_is fits e = e ∙ ap nat_abs (to_z-of_z w32 _ fits)

pub bounds-text-at : goal.bounds-text-at
bounds-text-at c =
    let back = to_z-of_z w32 c.args.literal c.ranges.literal in
    let is = variable_is c.ranges.literal (c.from-variable.ensures ∙ c.unsigned_abs.ensures.value) in
    omega (arith, negative_room c.args.literal is c.args.at c.args.text.now c.requires (rw back at c.if-literal-lt0.true))

pub overflow_add-at : goal.overflow_add-at
overflow_add-at c =
    let back = to_z-of_z w32 c.args.literal c.ranges.literal in
    let is = variable_is c.ranges.literal (c.from-variable.ensures ∙ c.unsigned_abs.ensures.value) in
    omega (arith, negative_room c.args.literal is c.args.at c.args.text.now c.requires (rw back at c.if-literal-lt0.true))

pub shape_of-text-then-literal-lt0 : goal.shape_of-text-then-literal-lt0
shape_of-text-then-literal-lt0 c =
    let back = to_z-of_z w32 c.args.literal c.ranges.literal in
    let is = variable_is c.ranges.literal (c.from-variable.ensures ∙ c.unsigned_abs.ensures.value) in
    wrote_length {d = c.args.text.now} (wrote_negative c.args.literal is c.requires (rw back at c.if-literal-lt0.true) c.write.ensures)

pub returns-then-literal-lt0 : goal.returns-then-literal-lt0
returns-then-literal-lt0 c =
    let back = to_z-of_z w32 c.args.literal c.ranges.literal in
    let is = variable_is c.ranges.literal (c.from-variable.ensures ∙ c.unsigned_abs.ensures.value) in
    wrote_negative c.args.literal is c.requires (rw back at c.if-literal-lt0.true) c.write.ensures

pub shape_of-text : goal.shape_of-text
shape_of-text c =
    let back = to_z-of_z w32 c.args.literal c.ranges.literal in
    let is = variable_is c.ranges.literal (c.from-variable.ensures ∙ c.unsigned_abs.ensures.value) in
    wrote_length (wrote_other c.args.literal is c.requires (rw back at c.if-literal-lt0.false) c.write-2.ensures)

pub returns : goal.returns
returns c =
    let back = to_z-of_z w32 c.args.literal c.ranges.literal in
    let is = variable_is c.ranges.literal (c.from-variable.ensures ∙ c.unsigned_abs.ensures.value) in
    wrote_other c.args.literal is c.requires (rw back at c.if-literal-lt0.false) c.write-2.ensures
