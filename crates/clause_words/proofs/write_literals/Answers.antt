-- `write_literals` meets its contract. The invariant: the text of the first i literals is written.
use mathlib.Core.Path.{refl, subst}
use mathlib.Core.List.{[], ◌∷◌}
use native.Mathlib.Omega.{arith}
use lib.IntN.{pos}
use lib.ListN.{get_or}
use mir.Syntax.{w32}
use mir.Val.{SFits}
use mir.ValLaws.{to_z-of_z}
use borrow.Author.Rules.{rules}
use Rattle.decimal.specs.Wrote.{Wrote}
use Rattle.decimal.specs.Writing.{wrote_length}
use Rattle.clause_words.specs.Text.{spaced_text}
use Rattle.clause_words.proofs.Spelling.{spelled_none, spelled_more, spelled_all}
use Rattle.clause_words.proofs.write_literals.Goals as goal

pub returns-then-size-at : goal.returns-then-size-at
returns-then-size-at c = record { roomy = λ h. absurd (omega (arith, h, c.if-size-at.true)); short = λ h. (refl, refl) }

pub returns-then-size-at-2 : goal.returns-then-size-at-2
returns-then-size-at-2 c = record { roomy = λ h. absurd (omega (arith, h, c.if-size-at-2.true, c.if-size-at.false)); short = λ h. (refl, refl) }

pub loop-literal-init : goal.loop-literal-init
loop-literal-init c = spelled_none _ _ _ c.if-size-at.false

pub write_spaced-to-requires : goal.write_spaced-to-requires
write_spaced-to-requires c =
    omega (arith, c.loop-literal.invariant.most, wrote_length c.loop-literal.invariant.wrote, c.loop-literal-test.true, c.if-size-at-2.false, c.if-size-at.false)

pub returns : goal.returns
returns c =
    record {
      roomy = λ h. spelled_all c.loop-literal.invariant c.loop-literal-test.false (omega arith);
      short = λ h. absurd (omega (arith, h, c.if-size-at-2.false, c.if-size-at.false));
    }

pub loop-literal-preserved : goal.loop-literal-preserved
loop-literal-preserved c =
    let fits : SFits w32 (get_or c.args.clause.now c.loop-literal.literal-index (pos 0)) = search rules in
    let (w, most) = c.write_spaced-to.ensures in
    spelled_more c.loop-literal.invariant c.loop-literal-test.true
    (subst (λ x. Wrote c.loop-literal.text c.loop-literal.to (spaced_text (x ∷ [])) c.write_spaced-to.new.text c.write_spaced-to.result) (to_z-of_z w32 (get_or c.args.clause.now c.loop-literal.literal-index (pos 0)) fits) w)
    most
