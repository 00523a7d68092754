-- `one_digit` meets its contract.
use mathlib.Core.Path.{◌≡◌, ap, ◌∙◌}
use Prim.Native.Nat.{ℕ, ◌+◌, ◌^◌, min}
use native.Mathlib.Omega.{arith}
use Rattle.decimal.specs.Digits.{ten_up}
use Rattle.decimal.specs.Spelling.{spells_none, spells_one}
use Rattle.decimal.proofs.one_digit.Goals as goal

pub returns-then-count-place : goal.returns-then-count-place
returns-then-count-place c = spells_none c.requires.1 _ (omega arith)

pub leading_digit-leading-requires : goal.leading_digit-leading-requires
leading_digit-leading-requires c =
    let e : min c.args.count (c.args.place + 1) ≡ c.args.place + 1 = omega arith in
    rw c.power_of_ten.ensures (omega (arith, c.requires.1.small, ap (λ (k : ℕ). 10 ^ k) e ∙ ten_up c.args.place))

pub bounds-dst-at : goal.bounds-dst-at
bounds-dst-at c = omega (arith, c.requires.1.room)

pub returns : goal.returns
returns c =
    spells_one c.requires.1 c.leading_digit-leading.result.digit c.args.place c.leading_digit-leading.result.rest _ (omega arith) (omega arith) (rw c.power_of_ten.ensures at c.leading_digit-leading.ensures.is.0) (rw c.power_of_ten.ensures at c.leading_digit-leading.ensures.is.1)
