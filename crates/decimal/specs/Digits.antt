-- Laws of decimal text: how long it is.
use Rattle.std.specs.Prelude.{◌≡◌, refl, Bool, true, false, cond, ℕ, zero, suc, ◌+◌, ◌*◌, ◌%◌, ◌^◌, ◌≤◌, ◌<◌, ltb, length}
use Rattle.std.proofs.Common.{ap, ◌∙◌, subst, pow-suc, add-zero, add-one, arith, ltb-true, ltb-false}
use Rattle.std.proofs.Math.Nat.{pow-le-pow_right}
use Rattle.std.proofs.Math.Decide.{dec_lt}
use Rattle.decimal.specs.Decimal.{digits, places, decimal}

pub ten_up : (k : ℕ) → 10 ^ (k + 1) ≡ 10 ^ k * 10
ten_up k = ap (λ (j : ℕ). 10 ^ j) (add-one k) ∙ pow-suc 10 k

-- a larger power of ten has a larger exponent
pub ten_less : (i j : ℕ) → 10 ^ i < 10 ^ j → i < j
ten_less i j h = go (dec_lt i j)
  where
    go : Dec (i < j) → i < j
    go (yes l) = l
    go (no l) = absurd (omega (arith, pow-le-pow_right {n = 10} (omega arith) {i = j} {j = i} (omega arith)))

-- ---- digits

pub digits_length : (k n : ℕ) → length (digits k n) ≡ k
digits_length zero n = refl
digits_length (suc k) n = ap suc (digits_length k (n % 10 ^ k))

-- ---- how many there are

-- a fact of the one or the other, by the test
either : (P : ℕ → Type 0) (b : Bool) {x y : ℕ} → (b ≡ true → P x) → (b ≡ false → P y) → P (cond b x y)
either P true h g = h refl
either P false h g = g refl

pub places_from : (k c n : ℕ) → c ≤ places k c n
places_from zero c n = omega arith
places_from (suc k) c n = either (λ r. c ≤ r) (ltb n (10 ^ c)) (λ e. omega arith) (λ e. omega (arith, places_from k (c + 1) n))

pub places_to : (k c n : ℕ) → places k c n ≤ c + k
places_to zero c n = omega arith
places_to (suc k) c n = either (λ r. r ≤ c + suc k) (ltb n (10 ^ c)) (λ e. omega arith) (λ e. omega (arith, places_to k (c + 1) n))

-- they suffice
pub places_enough : (k c n : ℕ) → n < 10 ^ (c + k) → n < 10 ^ places k c n
places_enough zero c n h = subst (λ j. n < 10 ^ j) (add-zero c) h
places_enough (suc k) c n h =
    let e : c + suc k ≡ c + 1 + k = omega arith in
    either (λ r. n < 10 ^ r) (ltb n (10 ^ c)) (ltb-true n (10 ^ c)) (λ t. places_enough k (c + 1) n (subst (λ j. n < 10 ^ j) e h))

-- and no more than suffice
pub places_least : (k c n j : ℕ) → c ≤ j → n < 10 ^ j → places k c n ≤ j
places_least zero c n j h g = h
places_least (suc k) c n j h g =
    either (λ r. r ≤ j) (ltb n (10 ^ c)) (λ e. h)
    (λ e. places_least k (c + 1) n j (omega (arith, ten_less c j (omega (arith, ltb-false n (10 ^ c) e)))) g)

-- ---- the length of decimal text

pub decimal_length : (n : ℕ) → length (decimal n) ≡ places 19 1 n
unfolding decimal
decimal_length n = digits_length (places 19 1 n) n

pub decimal_at_most_20 : (n : ℕ) → length (decimal n) ≤ 20
decimal_at_most_20 n = omega (arith, decimal_length n, places_to 19 1 n)

pub decimal_at_most : (n k : ℕ) → 1 ≤ k → n < 10 ^ k → length (decimal n) ≤ k
decimal_at_most n k h g = omega (arith, decimal_length n, places_least 19 1 n k h g)
