-- Laws of sums: the same terms, two sums in either order or as one, sums over rows, and the count of what passes a test.
use Rattle.std.specs.Prelude.{◌≡◌, ◌⊎◌, Bool}
use Rattle.std.proofs.Math.Path.{refl, ap}
use Rattle.std.proofs.Common.{sym, ap₂, ◌∙◌, inl, inr, add-suc, add-zero, zero-mul, suc-mul, mul_comm, eq-or-lt_of_le, not-suc-le-zero}
use Rattle.std.proofs.Math.Bool.{true, false}
use Prim.Native.Nat.{ℕ, zero, suc, ◌+◌, ◌*◌, ◌/◌, ◌%◌, ◌≤◌, ◌<◌}
use Rattle.std.proofs.Math.Nat.{le_refl}
use Rattle.std.proofs.Math.Decide.{dec_lt}
use native.Mathlib.Omega.{arith}
use Rattle.std.proofs.Math.Arith.{digits_div, digits_mod}
use Rattle.meaning.specs.BitSet.{bit}
use Rattle.meaning.specs.Counting.{total, how_many}

pub total_same : (n : ℕ) (f g : ℕ → ℕ) → ((i : ℕ) → i < n → f i ≡ g i) → total n f ≡ total n g
unfolding total
total_same zero f g e = refl
total_same (suc n) f g e = ap₂ ◌+◌ (total_same n f g (λ i h. e i (omega arith))) (e n (le_refl (suc n)))

pub total_plus : (n : ℕ) (f g : ℕ → ℕ) → total n (λ i. f i + g i) ≡ total n f + total n g
unfolding total
total_plus zero f g = refl
total_plus (suc n) f g = omega (arith, total_plus n f g)

pub total_const : (n c : ℕ) → total n (λ i. c) ≡ n * c
unfolding total
total_const zero c = omega arith
total_const (suc n) c = omega (arith, total_const n c)

pub total_times : (n c : ℕ) (f : ℕ → ℕ) → total n (λ i. c * f i) ≡ c * total n f
unfolding total
total_times zero c f = omega arith
total_times (suc n) c f = omega (arith, total_times n c f)

-- the sums in the other order
pub total_swap : (n k : ℕ) (f : ℕ → ℕ → ℕ) → total n (λ i. total k (f i)) ≡ total k (λ j. total n (λ i. f i j))
unfolding total
total_swap zero k f = sym (total_const k 0 ∙ omega arith)
total_swap (suc n) k f = ap (λ s. s + total k (f n)) (total_swap n k f) ∙ sym (total_plus k (λ j. total n (λ i. f i j)) (f n))

pub total_add : (n k : ℕ) (f : ℕ → ℕ) → total (n + k) f ≡ total n f + total k (λ i. f (n + i))
unfolding total
total_add n zero f = rw (add-zero n) (sym (add-zero (total n f)))
total_add n (suc k) f = rw (add-suc, total) (omega (arith, total_add n k f))

-- a sum of sums as one
pub total_total : (n k : ℕ) (f : ℕ → ℕ → ℕ) → total n (λ i. total k (f i)) ≡ total (n * k) (λ x. f (x / k) (x % k))
unfolding total
total_total zero k f = rw zero-mul
total_total (suc n) k f =
    let h : ℕ → ℕ = λ x. f (x / k) (x % k) in
    ap₂ ◌+◌ (total_total n k f) (total_same k (f n) (λ i. h (n * k + i)) (λ i l. ap₂ f (sym (digits_div n l)) (sym (digits_mod n l))))
    ∙ sym (total_add (n * k) k h) ∙ ap (λ x. total x h) (sym (suc-mul n k))

-- up to the pair y, v: whole rows, and a part of the next
pub total_pairs : (y b v : ℕ) (f : ℕ → ℕ → ℕ) → v < b → total (y * b + v) (λ x. f (x / b) (x % b)) ≡ total y (λ i. total b (f i)) + total v (f y)
total_pairs y b v f h =
    total_add (y * b) v (λ x. f (x / b) (x % b))
    ∙ ap₂ ◌+◌ (sym (total_total y b f)) (total_same v _ (f y) (λ j k. let l : j < b = omega arith in ap₂ f (digits_div y l) (digits_mod y l)))

-- each row holds the same number, b times over
pub total_wide : (y b : ℕ) (h : ℕ → ℕ) → total (y * b) (λ x. h (x / b)) ≡ total y h * b
total_wide y b h =
    sym (total_total y b (λ i j. h i)) ∙ total_same y _ (λ i. b * h i) (λ i l. total_const b (h i)) ∙ total_times y b h ∙ mul_comm b (total y h)

pub total_widely : (y b j : ℕ) (h : ℕ → ℕ) → j < b → total (y * b + j) (λ x. h (x / b)) ≡ total y h * b + j * h y
total_widely y b j h l =
    total_pairs y b j (λ i k. h i) l
    ∙ ap₂ ◌+◌ (total_same y _ (λ i. b * h i) (λ i k. total_const b (h i)) ∙ total_times y b h ∙ mul_comm b (total y h)) (total_const j (h y))

-- no term is above c
pub total_le : (n c : ℕ) (f : ℕ → ℕ) → ((i : ℕ) → i < n → f i ≤ c) → total n f ≤ n * c
unfolding total
total_le zero c f h = omega arith
total_le (suc n) c f h = omega (arith, total_le n c f (λ i g. h i (omega arith)), h n (le_refl (suc n)))

pub total_mono : (i j : ℕ) (f : ℕ → ℕ) → i ≤ j → total i f ≤ total j f
unfolding total
total_mono i zero f h = let e : i ≡ 0 = omega arith in rw e (le_refl (total 0 f))
total_mono i (suc j) f h = go (eq-or-lt_of_le h) (λ k. total_mono i j f k)
  where
    go : (i ≡ suc j) ⊎ (i < suc j) → (i ≤ j → total i f ≤ total j f) → total i f ≤ total (suc j) f
    go (inl e) below = rw e (le_refl (total (suc j) f))
    go (inr l) below = omega (arith, below (omega arith))

-- where nothing is added from i on
pub total_rest : (i k : ℕ) (f : ℕ → ℕ) → ((j : ℕ) → i ≤ j → j < i + k → f j ≡ 0) → total (i + k) f ≡ total i f
total_rest i k f e =
    total_add i k f ∙ ap (λ x. total i f + x) (total_same k _ (λ j. 0) (λ j h. e (i + j) (omega arith) (omega arith)) ∙ total_const k 0) ∙ omega arith

-- ---- the count of what passes a test

module _ (f : ℕ → Bool) where
  pub how_many_lt : (i j : ℕ) → i < j → f i ≡ true → how_many i f < how_many j f
  unfolding total
  how_many_lt i j h e = let one : bit (f i) ≡ 1 = ap bit e in omega (arith, total_mono (suc i) j (λ k. bit (f k)) h)

  pub how_many_apart : (i j : ℕ) → f i ≡ true → f j ≡ true → how_many i f ≡ how_many j f → i ≡ j
  how_many_apart i j ei ej e = go (dec_lt i j) (dec_lt j i)
    where
      go : Dec (i < j) → Dec (j < i) → i ≡ j
      go (yes h) d = absurd (omega (arith, how_many_lt i j h ei))
      go (no h) (yes k) = absurd (omega (arith, how_many_lt j i k ej))
      go (no h) (no k) = omega arith

  -- the one that k others are before
  pub how_many_find : (n k : ℕ) → k < how_many n f → (x : ℕ) × (x < n) × (f x ≡ true) × (how_many x f ≡ k)
  unfolding total
  how_many_find zero k h = absurd (not-suc-le-zero h)
  how_many_find (suc n) k h = go (dec_lt k (how_many n f)) (f n) refl (λ l. how_many_find n k l)
    where
      go : Dec (k < how_many n f) → (b : Bool) → f n ≡ b → (k < how_many n f → (x : ℕ) × (x < n) × (f x ≡ true) × (how_many x f ≡ k))
          → (x : ℕ) × (x < suc n) × (f x ≡ true) × (how_many x f ≡ k)
      go (yes l) b e below = let (x, hx, fx, t) = below l in (x, omega arith, fx, t)
      go (no l) true e below = let one : bit (f n) ≡ 1 = ap bit e in (n, le_refl (suc n), e, omega arith)
      go (no l) false e below = let none : bit (f n) ≡ 0 = ap bit e in absurd (omega arith)

pub how_many_same : (n : ℕ) (f g : ℕ → Bool) → ((i : ℕ) → i < n → f i ≡ g i) → how_many n f ≡ how_many n g
how_many_same n f g e = total_same n _ _ (λ i h. ap bit (e i h))

-- where all pass
pub how_many_all : (n : ℕ) (f : ℕ → Bool) → ((i : ℕ) → i < n → f i ≡ true) → how_many n f ≡ n
how_many_all n f e = total_same n _ (λ i. 1) (λ i h. ap bit (e i h)) ∙ total_const n 1 ∙ omega arith

pub how_many_le : (n : ℕ) (f : ℕ → Bool) → how_many n f ≤ n
unfolding total
how_many_le zero f = le_refl 0
how_many_le (suc n) f = omega (arith, how_many_le n f, bit_le (f n))
  where
    bit_le : (b : Bool) → bit b ≤ 1
    bit_le true = le_refl 1
    bit_le false = omega arith
