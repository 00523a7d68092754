-- Laws of a set that is made bit by bit, from the last.
use mathlib.Core.Path.{◌≡◌, refl, sym, ap, ap₂, ◌∙◌}
use mathlib.Core.Bool.{Bool, true, false}
use mir.Val.{bool_byte}
use Prim.Native.Nat.{ℕ, zero, suc, ◌+◌, ◌-◌, ◌*◌, ◌≤◌, ◌<◌}
use native.Mathlib.Nat.{add-zero, zero-add}
use native.Mathlib.Omega.{arith}
use lib.Pow.{pow_mono}
use Rattle.meaning.specs.BitSet.{bit, set_of}
use Rattle.meaning.specs.MarkSets.{set_of_same, set_of_lt}

-- a test as a byte is its bit
pub byte_bit : (b : Bool) → bool_byte b ≡ bit b
byte_bit true = refl
byte_bit false = refl

pub byte_le : (b : Bool) → bool_byte b ≤ 1
byte_le true = omega arith
byte_le false = omega arith

set_of_step : (k i : ℕ) (f : ℕ → Bool) → set_of k (λ j. f (suc i + j)) * 2 + bit (f i) ≡ set_of (suc k) (λ j. f (i + j))
unfolding set_of
set_of_step k i f =
    ap₂ (λ (x : ℕ) (b : Bool). x * 2 + bit b)
    (set_of_same k (λ j. f (suc i + j)) (λ j. f (i + suc j)) (λ j h. let e : suc i + j ≡ i + suc j = omega arith in ap f e)) (ap f (sym (add-zero i)))

-- the bits from i on
unfoldable pub upper : ℕ → (ℕ → Bool) → ℕ → ℕ
upper m f i = set_of (m - i) (λ j. f (i + j))

pub upper_none : (m : ℕ) (f : ℕ → Bool) → 0 ≡ upper m f m
unfolding set_of upper
upper_none m f = let e : m - m ≡ 0 = omega arith in rw e

pub upper_more : (m : ℕ) (f : ℕ → Bool) (i x : ℕ) {b : ℕ} → 0 < i → i ≤ m → x ≡ upper m f i → b ≡ bit (f (i - 1)) → x * 2 + b ≡ upper m f (i - 1)
unfolding upper
upper_more m f zero x h k e g = absurd (omega arith)
upper_more m f (suc i) x h k e g =
    let d : suc i - 1 ≡ i = omega arith in
    let c : suc (m - suc i) ≡ m - i = omega arith in
    ap₂ (λ (y z : ℕ). y * 2 + z) e (g ∙ ap (λ j. bit (f j)) d) ∙ set_of_step (m - suc i) i f ∙ ap (λ y. set_of y (λ j. f (i + j))) c ∙ ap (upper m f) (sym d)

pub upper_all : (m : ℕ) (f : ℕ → Bool) {i x : ℕ} → i ≤ 0 → x ≡ upper m f i → x ≡ set_of m f
unfolding upper
upper_all m f {i} h e =
    let d : i ≡ 0 = omega arith in
    let c : m - 0 ≡ m = omega arith in
    e ∙ ap (upper m f) d ∙ ap (λ k. set_of k (λ j. f (0 + j))) c ∙ set_of_same m (λ j. f (0 + j)) f (λ j g. ap f (zero-add j))

-- while bits are left, one bit more fits a byte
pub upper_lt : (m : ℕ) (f : ℕ → Bool) (i x : ℕ) → m ≤ 4 → 0 < i → x ≡ upper m f i → x < 8
unfolding upper
upper_lt m f i x h k e = omega (arith, set_of_lt (m - i) (λ j. f (i + j)), pow_mono {i = m - i} {j = 3} (omega arith))
