-- `name::among` meets its contract.
use mathlib.Core.Path.{sym}
use native.Mathlib.Omega.{arith}
use Rattle.hoa_words.specs.Inside.{spelled}
use Rattle.hoa_names.proofs.Slots.{among_found, among_passed, among_end}
use Rattle.hoa_names.proofs.name.among.Goals as goal

pub returns-then-spells : goal.returns-then-spells
returns-then-spells c =
    λ ws e h. among_found c.args.word.now ws c.args.lengths.now c.args.bytes.now c.loop-i.i _ (omega (arith, c.requires.0)) (omega (arith, c.loop-i-test.true)) c.from.ensures h (c.loop-i.invariant ws e h) _ (sym (spelled _ _ _ _ _ c.spells.ensures (omega arith) (omega (arith, c.requires.1 c.loop-i.i)))) c.if-spells.true

pub loop-i-preserved : goal.loop-i-preserved
loop-i-preserved c =
    λ ws e h. among_passed c.args.word.now ws c.args.lengths.now c.args.bytes.now c.loop-i.i _ (omega (arith, c.requires.0)) (omega (arith, c.loop-i-test.true)) c.from.ensures h (c.loop-i.invariant ws e h) _ (sym (spelled _ _ _ _ _ c.spells.ensures (omega arith) (omega (arith, c.requires.1 c.loop-i.i)))) c.if-spells.false

pub returns : goal.returns
returns c = λ ws e h. among_end c.args.word.now ws c.loop-i.i (omega (arith, c.loop-i-test.false)) (c.loop-i.invariant ws e h)
