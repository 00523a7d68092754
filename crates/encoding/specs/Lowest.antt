-- Laws of the lowest number below n that passes a test.
use Rattle.std.specs.Prelude.{◌≡◌, refl, Bool, true, false, ℕ, zero, suc, ◌<◌}
use Rattle.std.proofs.Common.{sym, ap, ap₂, ◌∙◌, true≢false, suc-le-suc, not-suc-le-zero, le_of_suc-le-suc, zero-lt-suc, arith}
use Rattle.encoding.specs.Clauses.{lowest}

pub lowest_true : (n : ℕ) (f : ℕ → Bool) (p : ℕ) → p < n → f p ≡ true → (lowest n f < n) × (f (lowest n f) ≡ true)
lowest_true zero f p h e = absurd (not-suc-le-zero h)
lowest_true (suc n) f p h e = go (f zero) refl p h e (λ p h e. lowest_true n (λ i. f (suc i)) p h e)
  where
    go : (b : Bool) → f zero ≡ b → (p : ℕ) → p < suc n → f p ≡ true
        → ((p : ℕ) → p < n → f (suc p) ≡ true → (lowest n (λ i. f (suc i)) < n) × (f (suc (lowest n (λ i. f (suc i)))) ≡ true))
        → (lowest (suc n) f < suc n) × (f (lowest (suc n) f) ≡ true)
    go true z p h e below = rw (z, lowest) (zero-lt-suc n, z)
    go false z zero h e below = absurd (true≢false (sym e ∙ z))
    go false z (suc p) h e below = let t = below p (le_of_suc-le-suc h) e in rw (z, lowest) (suc-le-suc t.0, t.1)

pub lowest_passes : (n : ℕ) (f : ℕ → Bool) → lowest n f < n → f (lowest n f) ≡ true
lowest_passes zero f h = absurd (not-suc-le-zero h)
lowest_passes (suc n) f h = go (f zero) refl h (λ k. lowest_passes n (λ i. f (suc i)) k)
  where
    go : (b : Bool) → f zero ≡ b → lowest (suc n) f < suc n → (lowest n (λ i. f (suc i)) < n → f (suc (lowest n (λ i. f (suc i)))) ≡ true) → f (lowest (suc n) f) ≡ true
    go true e h below = rw (e, lowest) e
    go false e h below = rw (e, lowest) (below (le_of_suc-le-suc (rw (e, lowest) at h)))

pub lowest_is : (n : ℕ) (f : ℕ → Bool) (i : ℕ) → i < n → f i ≡ true → ((j : ℕ) → j < i → f j ≡ false) → i ≡ lowest n f
lowest_is zero f i h e g = absurd (not-suc-le-zero h)
lowest_is (suc n) f zero h e g = rw (e, lowest)
lowest_is (suc n) f (suc i) h e g = rw (g zero (omega arith), lowest) (ap suc (lowest_is n (λ j. f (suc j)) i (omega arith) e (λ j k. g (suc j) (omega arith))))

pub lowest_none : (n : ℕ) (f : ℕ → Bool) → ((j : ℕ) → j < n → f j ≡ false) → n ≡ lowest n f
lowest_none zero f g = refl
lowest_none (suc n) f g = rw (g zero (omega arith), lowest) (ap suc (lowest_none n (λ j. f (suc j)) (λ j k. g (suc j) (omega arith))))

pub lowest_same : (n : ℕ) (f g : ℕ → Bool) → ((p : ℕ) → p < n → f p ≡ g p) → lowest n f ≡ lowest n g
lowest_same zero f g e = refl
lowest_same (suc n) f g e =
    ap₂ {C = ℕ} (λ (b : Bool) (k : ℕ). elim b [ true ↦ zero | false ↦ suc k ])
    (e zero (zero-lt-suc n)) (lowest_same n (λ i. f (suc i)) (λ i. g (suc i)) (λ p h. e (suc p) (omega arith)))
