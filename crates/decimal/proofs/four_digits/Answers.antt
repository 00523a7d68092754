-- `four_digits` meets its contract.
use mathlib.Core.Path.{refl}
use native.Mathlib.Omega.{arith}
use Rattle.decimal.specs.Spelling.{fits_as, spells_none, spells_then}
use Rattle.decimal.proofs.four_digits.Goals as goal

pub returns-then-count-place : goal.returns-then-count-place
returns-then-count-place c = spells_none c.requires.1 _ (omega arith)

pub one_digit-rest-requires : goal.one_digit-rest-requires
one_digit-rest-requires c = (omega arith, fits_as c.requires.1 _ (omega arith))

pub one_digit-rest-requires-2 : goal.one_digit-rest-requires-2
one_digit-rest-requires-2 c = (omega arith, fits_as c.one_digit-rest.ensures.fits _ (omega arith))

pub one_digit-rest-requires-3 : goal.one_digit-rest-requires-3
one_digit-rest-requires-3 c = (omega arith, fits_as c.one_digit-rest-2.ensures.fits _ (omega arith))

pub one_digit-requires : goal.one_digit-requires
one_digit-requires c = (omega arith, fits_as c.one_digit-rest-3.ensures.fits _ (omega arith))

pub returns : goal.returns
returns c =
    spells_then (spells_none c.requires.1 _ refl) (omega arith) (spells_then c.one_digit-rest.ensures (omega arith)
    (spells_then c.one_digit-rest-2.ensures (omega arith) (spells_then c.one_digit-rest-3.ensures (omega arith) c.one_digit.ensures)))
