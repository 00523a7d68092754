-- Laws of loops that make a list: what is in it, how two loops are one, and how long it is.
use Rattle.std.specs.Prelude.{◌≡◌, ◌⊎◌, ◌↔◌, Bool}
use Rattle.std.proofs.Math.Path.{refl, sym, ap, ap₂}
use Rattle.std.proofs.Common.{◌∙◌, inl, inr, suc-mul, add-suc, eq-or-lt_of_le, le_of_suc-le-suc, not-suc-le-zero}
use Rattle.std.proofs.Math.Logic.{⊎_elim}
use Rattle.std.proofs.Math.Bool.{true, false}
use Rattle.std.proofs.lemmas.Bool.{false≢true}
use mathlib.Core.List.Memᴰ
use mathlib.Core.List.{List, ◌++◌, append_assoc, append-nil, Memᴰ}
use Prim.Native.Nat.{ℕ, zero, suc, ◌+◌, ◌*◌, ◌/◌, ◌%◌, ◌≤◌, ◌<◌, zero-le}
use Rattle.std.proofs.Math.Nat.{zero-mul, add-zero, le_refl}
use native.Mathlib.Omega.{arith}
use Rattle.std.proofs.Math.Arith.{digits_div, digits_mod}
use Rattle.std.proofs.Math.ListN.{length, length-append}
use Rattle.meaning.specs.BitSet.{bit}
use Rattle.meaning.specs.Counting.{total}
use Rattle.encoding.specs.Clauses.{each, only}

-- ---- members
module _ {A : Type 0} {a : A} where
  pub each_in : {n : ℕ} (f : ℕ → List A) (i : ℕ) → i < n → Memᴰ a (f i) → Memᴰ a (each n f)
  unfolding each
  each_in {n = zero} f i h k = absurd (not-suc-le-zero h)
  each_in {n = suc n} f i h k = go (eq-or-lt_of_le (le_of_suc-le-suc h)) (λ l. each_in {n = n} f i l k)
    where
      go : (i ≡ n) ⊎ (i < n) → (i < n → Memᴰ a (each n f)) → Memᴰ a (each n f ++ f n)
      go (inl e) below = Memᴰ.append_right (each n f) (rw e at k)
      go (inr l) below = Memᴰ.append_left (f n) (below l)

  pub each_elim : {X : Type 0} {n : ℕ} {f : ℕ → List A} → ((i : ℕ) → i < n → Memᴰ a (f i) → X) → Memᴰ a (each n f) → X
  unfolding each
  each_elim {n = zero} g k = absurd (Memᴰ.not-nil k)
  each_elim {n = suc n} {f} g k = ⊎_elim (each_elim {n = n} {f = f} (λ i h. g i (omega arith))) (g n (le_refl (suc n))) (Memᴰ.append_cases (each n f) k)

  pub only_member : (b : Bool) (d : A) → Memᴰ a (only b d) ↔ ((b ≡ true) × (a ≡ d))
  unfolding only
  only_member true d = (λ k. (refl, Memᴰ.eq_of_singleton k), λ (e, g). Memᴰ.head g)
  only_member false d = (λ k. absurd (Memᴰ.not-nil k), λ (e, g). absurd (false≢true e))

-- ---- one loop for two
module _ {A : Type 0} where
  pub each_same : (n : ℕ) (f g : ℕ → List A) → ((i : ℕ) → i < n → f i ≡ g i) → each n f ≡ each n g
  unfolding each
  each_same zero f g e = refl
  each_same (suc n) f g e = ap₂ ◌++◌ (each_same n f g (λ i h. e i (omega arith))) (e n (le_refl (suc n)))

  pub each_add : (n k : ℕ) (f : ℕ → List A) → each (n + k) f ≡ each n f ++ each k (λ i. f (n + i))
  unfolding each
  each_add n zero f = rw add-zero (sym (append-nil (each n f)))
  each_add n (suc k) f = rw (add-suc, each) (rw (each_add n k f) (append_assoc (each n f) (each k (λ i. f (n + i))) (f (n + k))))

  -- a loop in a loop
  pub each_each : (n k : ℕ) (f : ℕ → ℕ → List A) → each n (λ i. each k (f i)) ≡ each (n * k) (λ x. f (x / k) (x % k))
  unfolding each
  each_each zero k f = rw zero-mul
  each_each (suc n) k f =
      let h : ℕ → List A = λ x. f (x / k) (x % k) in
      ap₂ ◌++◌ (each_each n k f) (each_same k (f n) (λ i. h (n * k + i)) (λ i l. ap₂ f (sym (digits_div n l)) (sym (digits_mod n l))))
      ∙ sym (each_add (n * k) k h) ∙ ap (λ x. each x h) (sym (suc-mul n k))

  pub only_most_one : (b : Bool) (a : A) → length (only b a) ≤ 1
  unfolding only
  only_most_one true a = le_refl 1
  only_most_one false a = zero-le

-- ---- lengths

module _ {A : Type 0} where
  pub each_total : (n : ℕ) (f : ℕ → List A) (g : ℕ → ℕ) → ((i : ℕ) → i < n → length (f i) ≡ g i) → length (each n f) ≡ total n g
  unfolding each total
  each_total zero f g e = refl
  each_total (suc n) f g e = length-append (each n f) (f n) ∙ ap₂ ◌+◌ (each_total n f g (λ i h. e i (omega arith))) (e n (le_refl (suc n)))

  pub each_length : (n k : ℕ) (f : ℕ → List A) → ((i : ℕ) → i < n → length (f i) ≡ k) → length (each n f) ≡ n * k
  unfolding each
  each_length zero k f e = omega arith
  each_length (suc n) k f e =
      let ih : length (each n f) ≡ n * k = each_length n k f (λ i h. e i (omega arith)) in
      let l : length (f n) ≡ k = e n (le_refl (suc n)) in
      length-append (each n f) (f n) ∙ omega arith

  pub only_length : (b : Bool) (a : A) → length (only b a) ≡ bit b
  unfolding only
  only_length true a = refl
  only_length false a = refl
