-- `write_digits` meets its contract: each part goes on where the one before has ended.
-- one digit is left at the end
use mathlib.Core.Path.{◌≡◌, refl, sym}
use Prim.Native.Nat.{ℕ, ◌<◌, min}
use native.Mathlib.Omega.{arith}
use Rattle.decimal.specs.Spelling.{fits_as, spells_none, spells_then, spells_all}
use Rattle.decimal.proofs.write_digits.Goals as goal

one : (count : ℕ) → 0 < count → 1 ≡ min count 1
one count h = omega arith

pub four_digits-rest-requires : goal.four_digits-rest-requires
four_digits-rest-requires c = (omega arith, fits_as c.requires.2 _ (omega arith))

pub last_digit-requires : goal.last_digit-requires
last_digit-requires c =
    fits_as c.four_digits-rest-5.ensures.fits 1 (sym (one c.args.count c.requires.0))

pub returns : goal.returns
returns c =
    let parts = spells_then c.four_digits-rest.ensures refl (spells_then c.four_digits-rest-2.ensures refl
    (spells_then c.four_digits-rest-3.ensures refl (spells_then c.four_digits-rest-4.ensures refl c.four_digits-rest-5.ensures))) in
    spells_all (spells_then (spells_none c.requires.2 _ refl) (omega arith) parts) (one c.args.count c.requires.0) c.last_digit.ensures
