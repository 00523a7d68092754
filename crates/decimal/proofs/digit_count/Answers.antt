-- `digit_count` meets its contract: the count at each turn is where the counting has come to.
use mathlib.Core.Path.{◌≡◌, sym, ap, ◌∙◌}
use Prim.Native.Nat.{ℕ, ◌≤◌, ◌-◌, ◌+◌, ◌^◌}
use native.Mathlib.Omega.{arith}
use Rattle.decimal.specs.Decimal.{places}
use Rattle.decimal.proofs.Laws.{places_here, places_past}
use Rattle.decimal.proofs.digit_count.Goals as goal

pub power_of_ten-requires : goal.power_of_ten-requires
power_of_ten-requires c = omega arith

pub returns-then-n-power_of_ten : goal.returns-then-n-power_of_ten
returns-then-n-power_of_ten c =
    sym (c.loop-count.invariant ∙ places_here (20 - c.loop-count.count) c.loop-count.count _ (rw c.power_of_ten.ensures at c.if-n-power_of_ten.true))

pub loop-count-preserved : goal.loop-count-preserved
loop-count-preserved c =
    let e : 20 - c.loop-count.count - 1 ≡ 20 - (c.loop-count.count + 1) = omega arith in
    let h : 10 ^ c.loop-count.count ≤ c.args.n = rw c.power_of_ten.ensures at c.if-n-power_of_ten.false in
    c.loop-count.invariant ∙ places_past (20 - c.loop-count.count) c.loop-count.count c.args.n (omega arith) h ∙ ap (λ (j : ℕ). places j (c.loop-count.count + 1) c.args.n) e

pub returns : goal.returns
returns c =
    let e : c.loop-count.count ≡ 20 = omega arith in
    sym (c.loop-count.invariant ∙ ap (λ (j : ℕ). places (20 - j) j c.args.n) e)
