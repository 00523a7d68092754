-- The set of one number alone, as a number: 2 ^ p has p and nothing else.
use Rattle.std.specs.Prelude.{◌≡◌, refl, ℕ, zero, suc, ◌*◌, ◌/◌, ◌%◌, ◌^◌, ◌<◌, eqb}
use Rattle.std.proofs.Common.{sym, ap, ap₂, ◌∙◌, arith, pow_pos}
use Rattle.std.proofs.Math.Nat.{two-pow-succ, mul-div-mul_left, div-eq_of_lt}
use Rattle.std.proofs.Math.Dec.{eqb-zero-suc, eqb-suc-zero, eqb-suc-suc}
use Rattle.meaning.specs.BitSet.{digit, has}

-- without their lowest digit
halves : (p q : ℕ) → 2 ^ suc p / 2 ^ suc q ≡ 2 ^ p / 2 ^ q
halves p q =
    let e : (n : ℕ) → 2 ^ suc n ≡ 2 * 2 ^ n = λ n. omega (arith, two-pow-succ n) in
    ap₂ ◌/◌ (e p) (e q) ∙ mul-div-mul_left (2 ^ p) (2 ^ q) (omega arith)

pub has_single : (p q : ℕ) → has (2 ^ p) q ≡ eqb q p
has_single zero zero = refl
has_single zero (suc q) = ap (λ n. digit (n % 2)) (div-eq_of_lt more) ∙ sym (eqb-suc-zero q)
  where
    more : 1 < 2 ^ suc q
    more = omega (arith, two-pow-succ q, pow_pos q)
has_single (suc p) zero = let e : 2 ^ suc p / 1 % 2 ≡ 0 = omega (arith, two-pow-succ p) in ap digit e ∙ sym (eqb-zero-suc p)
has_single (suc p) (suc q) = ap (λ n. digit (n % 2)) (halves p q) ∙ has_single p q ∙ sym (eqb-suc-suc q p)
