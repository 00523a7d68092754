-- `write_spaced` meets its contract.
use mathlib.Core.Path.{◌≡◌, subst}
use Prim.Native.Nat.{◌≤◌}
use native.Mathlib.Omega.{arith}
use lib.ListN.{length}
use mir.Syntax.{w32}
use mir.Val.{to_z, of_z}
use mir.ValLaws.{to_z-of_z}
use Rattle.decimal.specs.Wrote.{Wrote}
use Rattle.decimal.specs.Writing.{wrote_length}
use Rattle.clause_words.specs.Text.{literal_text}
use Rattle.clause_words.proofs.Signs.{abs_le}
use Rattle.clause_words.proofs.Spelling.{literal_at_most, wrote_spaced}
use Rattle.clause_words.proofs.write_spaced.Goals as goal

pub write_literal-to-requires : goal.write_literal-to-requires
write_literal-to-requires c =
    let back : to_z w32 (of_z w32 c.args.literal) ≡ c.args.literal = to_z-of_z w32 c.args.literal c.ranges.literal in
    let short : length (literal_text c.args.literal) ≤ 11 = literal_at_most c.args.literal (omega (arith, abs_le c.args.literal, c.ranges.literal.sfits)) in
    rw back (omega (arith, c.requires, short))

pub bounds-text-to : goal.bounds-text-to
bounds-text-to c =
    let back : to_z w32 (of_z w32 c.args.literal) ≡ c.args.literal = to_z-of_z w32 c.args.literal c.ranges.literal in
    let written : Wrote c.args.text.now c.args.at (literal_text c.args.literal) c.write_literal-to.new.text c.write_literal-to.result = subst (λ x. Wrote c.args.text.now c.args.at (literal_text x) c.write_literal-to.new.text c.write_literal-to.result) back c.write_literal-to.ensures in
    let short : length (literal_text c.args.literal) ≤ 11 = literal_at_most c.args.literal (omega (arith, abs_le c.args.literal, c.ranges.literal.sfits)) in
    omega (arith, c.requires, written.next, wrote_length written, short)

pub returns : goal.returns
returns c =
    let back : to_z w32 (of_z w32 c.args.literal) ≡ c.args.literal = to_z-of_z w32 c.args.literal c.ranges.literal in
    let written : Wrote c.args.text.now c.args.at (literal_text c.args.literal) c.write_literal-to.new.text c.write_literal-to.result = subst (λ x. Wrote c.args.text.now c.args.at (literal_text x) c.write_literal-to.new.text c.write_literal-to.result) back c.write_literal-to.ensures in
    let short : length (literal_text c.args.literal) ≤ 11 = literal_at_most c.args.literal (omega (arith, abs_le c.args.literal, c.ranges.literal.sfits)) in
    (wrote_spaced c.args.literal written (omega (arith, c.requires, written.next, wrote_length written, short)), omega (arith, written.next, short))
