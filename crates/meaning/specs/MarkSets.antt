-- Laws of sets of marks: the set of a test has what passes, and every set below 2 ^ k is the set of its own bits.
use Rattle.std.specs.Prelude.{◌≡◌, refl, Bool, true, false, ℕ, zero, suc, ◌+◌, ◌*◌, ◌/◌, ◌%◌, ◌^◌, ◌<◌}
use Rattle.std.proofs.Common.{sym, ap, ap₂, ◌∙◌, div-add-mod', not-suc-le-zero, le_of_suc-le-suc, div-one, arith}
use Rattle.std.proofs.Math.Nat.{two-pow-succ, div-div-eq-div-mul}
use Rattle.std.proofs.Math.Arith.{digits_div, digits_mod, lt-one}
use Rattle.meaning.specs.BitSet.{digit, bit, has, set_of}
use Rattle.meaning.specs.BitSetLaws.{digit_bit}

bit_lt : (b : Bool) → bit b < 2
bit_lt true = omega arith
bit_lt false = omega arith

bit_digit : (x : ℕ) → x < 2 → bit (digit x) ≡ x
bit_digit zero h = refl
bit_digit (suc zero) h = refl
bit_digit (suc (suc x)) h = absurd (omega arith)

pub has_low : (K : ℕ) → has K 0 ≡ digit (K % 2)
has_low K = ap (λ x. digit (x % 2)) (div-one K)

pub has_half : (K i : ℕ) → has K (suc i) ≡ has (K / 2) i
has_half K i =
    let e : 2 ^ suc i ≡ 2 * 2 ^ i = omega (arith, two-pow-succ i) in
    ap (λ x. digit (x % 2)) (ap (λ x. K / x) e ∙ sym (div-div-eq-div-mul K 2 (2 ^ i)))

pub set_of_lt : (k : ℕ) (f : ℕ → Bool) → set_of k f < 2 ^ k
unfolding set_of
set_of_lt zero f = omega arith
set_of_lt (suc k) f =
    let ih : set_of k (λ i. f (suc i)) < 2 ^ k = set_of_lt k (λ i. f (suc i)) in
    omega (arith, bit_lt (f zero))

pub has_set_of : (k : ℕ) (f : ℕ → Bool) (i : ℕ) → i < k → has (set_of k f) i ≡ f i
unfolding set_of
has_set_of zero f i h = absurd (not-suc-le-zero h)
has_set_of (suc k) f zero h = has_low (set_of (suc k) f) ∙ ap digit (digits_mod (set_of k (λ i. f (suc i))) (bit_lt (f zero))) ∙ digit_bit (f zero)
has_set_of (suc k) f (suc i) h =
    has_half (set_of (suc k) f) i ∙ ap (λ K. has K i) (digits_div (set_of k (λ i. f (suc i))) (bit_lt (f zero))) ∙ has_set_of k (λ i. f (suc i)) i (le_of_suc-le-suc h)

pub set_of_same : (k : ℕ) (f g : ℕ → Bool) → ((i : ℕ) → i < k → f i ≡ g i) → set_of k f ≡ set_of k g
unfolding set_of
set_of_same zero f g e = refl
set_of_same (suc k) f g e =
    ap₂ (λ (x : ℕ) (b : Bool). x * 2 + bit b) (set_of_same k (λ i. f (suc i)) (λ i. g (suc i)) (λ i h. e (suc i) (omega arith))) (e zero (omega arith))

pub set_of_has : (k K : ℕ) → K < 2 ^ k → set_of k (has K) ≡ K
unfolding set_of
set_of_has zero K h = sym (lt-one h)
set_of_has (suc k) K h =
    ap₂ (λ (x y : ℕ). x * 2 + y)
    (set_of_same k (λ i. has K (suc i)) (has (K / 2)) (λ i l. has_half K i) ∙ set_of_has k (K / 2) (omega arith))
    (ap bit (has_low K) ∙ bit_digit (K % 2) (omega arith)) ∙ div-add-mod' K 2
