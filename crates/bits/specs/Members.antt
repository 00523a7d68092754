-- How many members a set has below a number: the ones among its lowest digits.
use Rattle.std.specs.Prelude.{◌≡◌, refl, ℕ, zero, suc, ◌+◌, ◌*◌, ◌/◌, ◌%◌, ◌^◌, ◌≤◌, ◌<◌, min}
use Rattle.std.proofs.Common.{sym, ap, ap₂, ◌∙◌, mod-lt, mod-eq_of_lt, zero-lt-suc, arith, pow_pos}
use Rattle.std.proofs.Math.Nat.{mod-one}
use Rattle.std.specs.Int.Count.{ones}
use Rattle.std.proofs.lemmas.Nat.{ones_cat, ones-le}
use Rattle.std.proofs.Math.Pow.{pow-lt}
use Rattle.meaning.specs.BitSet.{bit, digit, has}
use Rattle.meaning.specs.BitSetLaws.{low}
use Rattle.meaning.specs.Counting.{total, how_many}
use Rattle.meaning.specs.Totals.{how_many_le}

ones_digit : (d : ℕ) → d < 2 → ones d ≡ bit (digit d)
unfolding ones
ones_digit zero h = refl
ones_digit (suc zero) h = refl
ones_digit (suc (suc d)) h = absurd (omega arith)

pub ones_low : (s k : ℕ) → ones (s % 2 ^ k) ≡ how_many k (has s)
unfolding total ones
ones_low s zero = ap ones (mod-one s)
ones_low s (suc k) =
    ap ones (low s k) ∙ ones_cat k (s / 2 ^ k % 2) (s % 2 ^ k) (mod-lt s (pow_pos k))
    ∙ ap₂ ◌+◌ (ones_digit (s / 2 ^ k % 2) (mod-lt (s / 2 ^ k) (zero-lt-suc 1))) (ones_low s k) ∙ omega arith

pub ones_all : (s : ℕ) → s < 65536 → ones s ≡ how_many 16 (has s)
ones_all s h = ap ones (sym (mod-eq_of_lt h)) ∙ ones_low s 16

-- ---- as `below` counts them

pub shift_is : (k : ℕ) → k < 16 → 1 * 2 ^ k % 65536 ≡ 2 ^ k
shift_is k h = let e : 1 * 2 ^ k ≡ 2 ^ k = omega arith in ap (λ x. x % 65536) e ∙ mod-eq_of_lt (pow-lt h)

pub shift_some : (k : ℕ) → k < 16 → 0 < 1 * 2 ^ k % 65536
shift_some k h = omega (arith, shift_is k h, pow_pos k)

pub below_low : (s k : ℕ) → k < 16 → (ones (s % (1 * 2 ^ k % 65536)) ≡ how_many (min k 16) (has s)) × (ones (s % (1 * 2 ^ k % 65536)) ≤ 16)
below_low s k h =
    let e : ones (s % (1 * 2 ^ k % 65536)) ≡ how_many k (has s) = ap (λ x. ones (s % x)) (shift_is k h) ∙ ones_low s k in
    let m : k ≡ min k 16 = omega arith in
    (e ∙ ap (λ j. how_many j (has s)) m, omega (arith, e, how_many_le k (has s)))

pub below_all : (s k : ℕ) → s < 65536 → 16 ≤ k → (ones s ≡ how_many (min k 16) (has s)) × (ones s ≤ 16)
below_all s k l h =
    let m : 16 ≡ min k 16 = omega arith in
    (ones_all s l ∙ ap (λ j. how_many j (has s)) m, ones-le 16 s l)
