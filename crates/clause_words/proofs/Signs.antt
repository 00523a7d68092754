-- Signed numbers: the variable of a literal, and its text.
use mathlib.Core.Path.{◌≡◌, refl, sym, ap}
use mathlib.Core.Bool.{true, false}
use mathlib.Core.List.{[], ◌∷◌, ◌++◌}
use Prim.Native.Nat.{◌+◌, ◌≤◌}
use native.Mathlib.Numerals.{add-one}
use native.Mathlib.Omega.{arith}
use borrow.Author.Tests.{ltb-true}
use lib.IntN.{ℤ, pos, negsuc, nat_abs}
use lib.Signed.{lt_z, mag}
use Rattle.decimal.specs.Decimal.{decimal}
use Rattle.clause_words.specs.Text.{literal_text}

pub abs_le : (z : ℤ) → nat_abs z ≤ mag z + 1
abs_le (pos n) = omega arith
abs_le (negsuc n) = omega arith

pub text_negative : (z : ℤ) → lt_z z (pos 0) ≡ true → (45 ∷ []) ++ decimal (nat_abs z) ≡ literal_text z
text_negative (pos n) e = absurd (omega (arith, ltb-true n 0 e))
text_negative (negsuc n) e = ap (λ k. 45 ∷ decimal k) (sym (add-one n))

pub text_other : (z : ℤ) → lt_z z (pos 0) ≡ false → decimal (nat_abs z) ≡ literal_text z
text_other (pos n) e = refl
text_other (negsuc n) e = cc
