-- `write_line` meets its contract.
use mathlib.Core.Path.{refl, subst}
use Prim.Native.Nat.{ℕ}
use native.Mathlib.Omega.{arith}
use lib.ListN.{length-replicate}
use Rattle.decimal.specs.Wrote.{WroteIfRoom}
use Rattle.decimal.specs.Writing.{wrote_length}
use Rattle.clause_words.proofs.Spelling.{wrote_line}
use Rattle.clause_words.proofs.write_line.Goals as goal

pub returns-then-clause-gt-LITERALS : goal.returns-then-clause-gt-LITERALS
returns-then-clause-gt-LITERALS c = record { line = λ h. absurd (omega (arith, h, c.if-clause-gt-LITERALS.true)); long = λ h. (refl, refl) }

pub returns : goal.returns
returns c =
    let size = length-replicate {A = ℕ} 98 0 in
    let (w, most) = c.write_literals-to.ensures.roomy (omega (arith, c.if-clause-gt-LITERALS.false, size)) in
    record {
      line = λ h. subst (λ t. WroteIfRoom c.args.text.now c.args.at t c.word.new.out c.word.result)
          (wrote_line c.args.clause.now w (omega (arith, c.if-clause-gt-LITERALS.false, size, most, wrote_length w))) c.word.ensures;
      long = λ h. absurd (omega (arith, h, c.if-clause-gt-LITERALS.false));
    }
