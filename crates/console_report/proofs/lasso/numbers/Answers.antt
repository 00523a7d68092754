-- `lasso::numbers` meets its contract.
use mathlib.Core.Path.{◌≡◌, ap, ◌∙◌, subst}
use mathlib.Core.List.{List}
use Prim.Native.Nat.{ℕ, ◌<◌}
use native.Mathlib.Omega.{arith}
use lib.ListN.{length, get_or, take}
use mir.Syntax.{w8}
use mir.Val.{Fits}
use Rattle.std.proofs.lemmas.List.{length-take, get_or-take, take_min}
use Rattle.decimal.specs.Digits.{decimal_at_most}
use Rattle.decimal.specs.Wrote.{Wrote}
use Rattle.console_report.specs.Spaced.{spaced}
use Rattle.console_report.proofs.Spacing.{none_yet, one_more, ended}
use Rattle.console_report.proofs.lasso.numbers.Goals as goal

below : (n : ℕ) (w : List ℕ) (i : ℕ) {b : ℕ} → b ≡ get_or (take n w) i 0 → i < length (take n w) → ((k : ℕ) → Fits w8 (get_or w k 0)) → b < 256
below n w i e h f = omega (arith, f i, get_or-take n w i 0 (omega (arith, length-take n w)))

pub loop-letter-init : goal.loop-letter-init
loop-letter-init c = none_yet _ _ _ _ (omega arith)

pub spaced-next-requires : goal.spaced-next-requires
spaced-next-requires c =
    let small = below c.min-size.result c.args.letters.now c.loop-letter.letter-index c.from.ensures c.loop-letter-test.true c.type_inv.letters in
    omega (arith, decimal_at_most c.from.result 3 (omega arith) (omega (arith, small)), c.loop-letter.invariant.most, length-take c.min-size.result c.args.letters.now)

pub loop-letter-preserved : goal.loop-letter-preserved
loop-letter-preserved c =
    let small = below c.min-size.result c.args.letters.now c.loop-letter.letter-index c.from.ensures c.loop-letter-test.true c.type_inv.letters in
    one_more _ _ _ _ c.loop-letter.invariant c.loop-letter-test.true c.from.ensures (omega (arith, decimal_at_most c.from.result 3 (omega arith) (omega (arith, small)))) c.spaced-next.ensures

pub returns : goal.returns
returns c =
    let w = c.args.letters.now in
    let all = ap (λ n. take n w) c.min-size.ensures ∙ take_min c.args.count w in
    record {
      is = subst (λ u. Wrote c.args.out.now c.args.at (spaced u) c.loop-letter.out c.loop-letter.next) all (ended _ _ _ _ c.loop-letter.invariant c.loop-letter-test.false);
      most = omega (arith, c.loop-letter.invariant.most, c.loop-letter.invariant.some, length-take c.min-size.result w);
    }
