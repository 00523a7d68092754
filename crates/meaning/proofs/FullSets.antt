-- Laws of full sets of numbers: of all numbers below k, and what is not in a set.
use Rattle.std.specs.Prelude.{◌≡◌, refl, true, not, ℕ, zero, suc, ◌+◌, ◌-◌, ◌*◌, ◌/◌, ◌%◌, ◌^◌, ◌<◌, eqb}
use Rattle.std.proofs.Common.{sym, ap, ◌∙◌, mod-lt, mod-eq_of_lt, zero-lt-suc, zero-mul, arith, pow_pos, eq-eqb, eqb-true}
use Rattle.std.proofs.lemmas.Bool.{false≢true}
use Rattle.std.proofs.Math.Nat.{two-pow-succ}
use Rattle.std.specs.Int.Bits.{bit_xor}
use Rattle.std.proofs.lemmas.Nat.{xor_shr, xor_mod}
use Rattle.std.proofs.Math.Pow.{ones_lt}
use Rattle.meaning.specs.Tests.{all}
use Rattle.meaning.specs.TestLaws.{all_at, and_true, same_truth}
use Rattle.meaning.specs.BitSet.{digit, has}
use Rattle.meaning.specs.BitSetLaws.{low, full_mod}

mod_suc : (s k d : ℕ) → s / 2 ^ k % 2 ≡ d → d < 2 → s % 2 ^ suc k ≡ 2 ^ suc k - 1 → (digit d ≡ true) × (s % 2 ^ k ≡ 2 ^ k - 1)
mod_suc s k zero e l h =
    let a : s % 2 ^ suc k ≡ s % 2 ^ k = low s k ∙ ap (λ a. a * 2 ^ k + s % 2 ^ k) e ∙ omega (arith, zero-mul (2 ^ k)) in
    absurd (omega (arith, mod-lt s (pow_pos k), two-pow-succ k, pow_pos k))
mod_suc s k (suc zero) e l h =
    let a : s % 2 ^ suc k ≡ 2 ^ k + s % 2 ^ k = low s k ∙ ap (λ a. a * 2 ^ k + s % 2 ^ k) e ∙ omega arith in
    (refl, omega (arith, two-pow-succ k, pow_pos k))
mod_suc s k (suc (suc d)) e l h = absurd (omega arith)

pub mod_full : (s k : ℕ) → s % 2 ^ k ≡ 2 ^ k - 1 → all k (has s) ≡ true
mod_full s zero h = refl
mod_full s (suc k) h =
    let t = mod_suc s k (s / 2 ^ k % 2) refl (mod-lt (s / 2 ^ k) (zero-lt-suc 1)) h in
    and_true t.0 (mod_full s k t.1)

-- ---- all numbers below k, and what is not in a set

-- 2 ^ k - 1 is the set of all numbers below k
pub has_below : (k i : ℕ) → i < k → has (2 ^ k - 1) i ≡ true
has_below k i h = all_at k (has (2 ^ k - 1)) (mod_full (2 ^ k - 1) k (mod-eq_of_lt (ones_lt k))) i h

digit_one : (d : ℕ) → d < 2 → digit d ≡ true → d ≡ 1
digit_one zero h e = absurd (false≢true e)
digit_one (suc zero) h e = refl
digit_one (suc (suc d)) h e = absurd (omega arith)

all_digits : (k i : ℕ) → i < k → (2 ^ k - 1) / 2 ^ i % 2 ≡ 1
all_digits k i h = digit_one ((2 ^ k - 1) / 2 ^ i % 2) (mod-lt ((2 ^ k - 1) / 2 ^ i) (zero-lt-suc 1)) (has_below k i h)

digit_not : (a : ℕ) → a < 2 → digit (bit_xor a 1) ≡ not (digit a)
digit_not zero h = refl
digit_not (suc zero) h = refl
digit_not (suc (suc a)) h = absurd (omega arith)

pub has_without : (k a i : ℕ) → i < k → has (bit_xor a (2 ^ k - 1)) i ≡ not (has a i)
has_without k a i h =
    ap (λ n. digit (n % 2)) (xor_shr a (2 ^ k - 1) i) ∙ ap digit (xor_mod (a / 2 ^ i) ((2 ^ k - 1) / 2 ^ i) 1)
    ∙ ap (λ n. digit (bit_xor (a / 2 ^ i % 2) n)) (all_digits k i h) ∙ digit_not (a / 2 ^ i % 2) (mod-lt (a / 2 ^ i) (zero-lt-suc 1))

-- 65535 for those below 16
pub has_all : (i : ℕ) → i < 16 → has 65535 i ≡ true
has_all i h = has_below 16 i h

pub has_not : (a i : ℕ) → i < 16 → has (bit_xor a 65535) i ≡ not (has a i)
has_not a i h = has_without 16 a i h

-- "K is all k", as one test of the number
pub all_has : (k K : ℕ) → K < 2 ^ k → all k (has K) ≡ eqb K (2 ^ k - 1)
all_has k K h = same_truth _ _ (λ e. eq-eqb _ _ (sym (mod-eq_of_lt h) ∙ full_mod K k e)) (λ e. mod_full K k (mod-eq_of_lt h ∙ eqb-true _ _ e))
