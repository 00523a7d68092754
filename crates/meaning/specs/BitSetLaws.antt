-- Laws of numbers as sets: members, unions, what two sets share, full sets; equal sets are equal numbers.
use Rattle.std.specs.Prelude.{◌≡◌, refl, Bool, true, false, ◌&&◌, ◌||◌, ℕ, zero, suc, ◌+◌, ◌-◌, ◌*◌, ◌/◌, ◌%◌, ◌^◌, ◌<◌, eqb}
use Rattle.std.proofs.Common.{sym, ap, ap₂, ◌∙◌, mod-lt, mod-eq_of_lt, zero-lt-suc, arith, pow_pos}
use Rattle.std.proofs.lemmas.Bool.{false≢true}
use Rattle.std.proofs.Math.Nat.{mod-one, two-pow-succ, zero-div}
use Rattle.std.specs.Int.Bits.{bit_and, bit_or}
use Rattle.std.proofs.lemmas.Nat.{or_shr, or_mod, and_shr, and_mod, mod-pow-add}
use Rattle.meaning.specs.Tests.{all}
use Rattle.meaning.specs.TestLaws.{and_left, and_right}
use Rattle.meaning.specs.BitSet.{digit, bit, has}

pub digit_bit : (b : Bool) → digit (bit b) ≡ b
digit_bit true = refl
digit_bit false = refl

-- the digit compared with 1
digit_test : (d : ℕ) → d < 2 → eqb d 1 ≡ digit d
digit_test zero h = refl
digit_test (suc zero) h = refl
digit_test (suc (suc d)) h = absurd (omega arith)

pub has_test : (s i : ℕ) → eqb (s / 2 ^ i % 2) 1 ≡ has s i
has_test s i = digit_test (s / 2 ^ i % 2) (mod-lt (s / 2 ^ i) (zero-lt-suc 1))

digit_or : (a b : ℕ) → a < 2 → b < 2 → digit (bit_or a b) ≡ (digit a || digit b)
digit_or zero b ha hb = refl
digit_or (suc zero) zero ha hb = refl
digit_or (suc zero) (suc zero) ha hb = refl
digit_or (suc zero) (suc (suc b)) ha hb = absurd (omega arith)
digit_or (suc (suc a)) b ha hb = absurd (omega arith)

-- the union of two sets
pub has_or : (a b i : ℕ) → has (bit_or a b) i ≡ (has a i || has b i)
has_or a b i =
    ap (λ n. digit (n % 2)) (or_shr a b i) ∙ ap digit (or_mod (a / 2 ^ i) (b / 2 ^ i) 1)
    ∙ digit_or (a / 2 ^ i % 2) (b / 2 ^ i % 2) (mod-lt (a / 2 ^ i) (zero-lt-suc 1)) (mod-lt (b / 2 ^ i) (zero-lt-suc 1))

digit_and : (a b : ℕ) → a < 2 → b < 2 → digit (bit_and a b) ≡ (digit a && digit b)
digit_and zero b ha hb = refl
digit_and (suc zero) zero ha hb = refl
digit_and (suc zero) (suc zero) ha hb = refl
digit_and (suc zero) (suc (suc b)) ha hb = absurd (omega arith)
digit_and (suc (suc a)) b ha hb = absurd (omega arith)

-- and what they share
pub has_and : (a b i : ℕ) → has (bit_and a b) i ≡ (has a i && has b i)
has_and a b i =
    ap (λ n. digit (n % 2)) (and_shr a b i) ∙ ap digit (and_mod (a / 2 ^ i) (b / 2 ^ i) 1)
    ∙ digit_and (a / 2 ^ i % 2) (b / 2 ^ i % 2) (mod-lt (a / 2 ^ i) (zero-lt-suc 1)) (mod-lt (b / 2 ^ i) (zero-lt-suc 1))

pub has_zero : (i : ℕ) → has 0 i ≡ false
has_zero i = ap (λ n. digit (n % 2)) (zero-div (2 ^ i))

-- the k + 1 low digits
pub low : (s k : ℕ) → s % 2 ^ suc k ≡ (s / 2 ^ k % 2) * 2 ^ k + s % 2 ^ k
low s k = let e : suc k ≡ 1 + k = omega arith in ap (λ n. s % 2 ^ n) e ∙ mod-pow-add s 1 k

-- the sets below k are all in s: by one test of the k low digits
full_suc : (s k d : ℕ) → s / 2 ^ k % 2 ≡ d → digit d ≡ true → d < 2 → s % 2 ^ k ≡ 2 ^ k - 1 → s % 2 ^ suc k ≡ 2 ^ suc k - 1
full_suc s k zero e h l r = absurd (false≢true h)
full_suc s k (suc zero) e h l r = low s k ∙ ap₂ (λ a b. a * 2 ^ k + b) e r ∙ omega (arith, two-pow-succ k, pow_pos k)
full_suc s k (suc (suc d)) e h l r = absurd (omega arith)

pub full_mod : (s k : ℕ) → all k (has s) ≡ true → s % 2 ^ k ≡ 2 ^ k - 1
full_mod s zero h = mod-one s
full_mod s (suc k) h =
    full_suc s k (s / 2 ^ k % 2) refl (and_left (has s k) (all k (has s)) h) (mod-lt (s / 2 ^ k) (zero-lt-suc 1)) (full_mod s k (and_right (has s k) (all k (has s)) h))

-- ---- all numbers below k, and what is not in a set

-- ---- two sets of numbers below k are equal as numbers where they have the same members
digit_same : (a b : ℕ) → a < 2 → b < 2 → digit a ≡ digit b → a ≡ b
digit_same zero zero ha hb e = refl
digit_same zero (suc b) ha hb e = absurd (false≢true e)
digit_same (suc a) zero ha hb e = absurd (false≢true (sym e))
digit_same (suc a) (suc b) ha hb e = omega arith

mod_same : (k s t : ℕ) → ((i : ℕ) → i < k → has s i ≡ has t i) → s % 2 ^ k ≡ t % 2 ^ k
mod_same zero s t h = mod-one s ∙ sym (mod-one t)
mod_same (suc k) s t h =
    low s k
    ∙ ap₂ (λ d r. d * 2 ^ k + r)
    (digit_same (s / 2 ^ k % 2) (t / 2 ^ k % 2) (mod-lt (s / 2 ^ k) (zero-lt-suc 1)) (mod-lt (t / 2 ^ k) (zero-lt-suc 1)) (h k (omega arith)))
    (mod_same k s t (λ i g. h i (omega arith)))
    ∙ sym (low t k)

pub has_same : (k s t : ℕ) → s < 2 ^ k → t < 2 ^ k → ((i : ℕ) → i < k → has s i ≡ has t i) → s ≡ t
has_same k s t hs ht h = sym (mod-eq_of_lt hs) ∙ mod_same k s t h ∙ mod-eq_of_lt ht
