-- The union of sets, as numbers, is associative.
use Rattle.std.specs.Prelude.{◌≡◌, ℕ, zero, ◌/◌, ◌%◌, max}
use Rattle.std.proofs.Common.{sym, ap, ◌∙◌, arith}
use Rattle.std.proofs.Math.Arith.{bin_ind}
use Rattle.std.specs.Int.Bits.{bit_or, or_step, or_zero_l}
use Rattle.std.proofs.lemmas.Nat.{or_shr}

or_half : (a b : ℕ) → bit_or a b / 2 ≡ bit_or (a / 2) (b / 2)
or_half a b = or_shr a b 1

or_last : (a b : ℕ) → bit_or a b % 2 ≡ max (a % 2) (b % 2)
or_last a b = let e = or_step a b in omega arith

pub or_assoc : (a b c : ℕ) → bit_or (bit_or a b) c ≡ bit_or a (bit_or b c)
or_assoc = bin_ind (λ a. (b c : ℕ) → bit_or (bit_or a b) c ≡ bit_or a (bit_or b c)) none more
  where
    none : (b c : ℕ) → bit_or (bit_or zero b) c ≡ bit_or zero (bit_or b c)
    none b c = ap (λ x. bit_or x c) (or_zero_l b) ∙ sym (or_zero_l (bit_or b c))

    more : (a : ℕ) → ((b c : ℕ) → bit_or (bit_or (a / 2) b) c ≡ bit_or (a / 2) (bit_or b c)) → (b c : ℕ) → bit_or (bit_or a b) c ≡ bit_or a (bit_or b c)
    more a ih b c =
        let high : bit_or (bit_or a b / 2) (c / 2) ≡ bit_or (a / 2) (bit_or b c / 2) = ap (λ x. bit_or x (c / 2)) (or_half a b) ∙ ih (b / 2) (c / 2) ∙ ap (bit_or (a / 2)) (sym (or_half b c)) in
        omega (arith, or_step (bit_or a b) c, or_step a (bit_or b c), or_last a b, or_last b c)
