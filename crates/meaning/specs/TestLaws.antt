-- Laws of tests, and of `any` and `all`.
use Rattle.std.specs.Prelude.{◌≡◌, refl, ◌⊎◌, ◌↔◌, Bool, true, false, not, cond, ◌&&◌, ◌||◌, ℕ, zero, suc, ◌<◌}
use Rattle.std.proofs.Common.{sym, ap, ap₂, ◌∙◌, inl, inr, true≢false, not-suc-le-zero, arith}
use Rattle.std.proofs.lemmas.Bool.{false≢true, not-true, not-false}
use Rattle.std.proofs.Math.Decide.{ℕ_discrete}
use Rattle.meaning.specs.Tests.{any, all}

pub or_left : {a : Bool} (b : Bool) → a ≡ true → (a || b) ≡ true
or_left b h = rw h

pub or_right : (a : Bool) {b : Bool} → b ≡ true → (a || b) ≡ true
or_right true h = refl
or_right false h = h

pub or_cases : (a b : Bool) → (a || b) ≡ true → (a ≡ true) ⊎ (b ≡ true)
or_cases true b h = inl refl
or_cases false b h = inr h

pub or_false : (a b : Bool) → (a || b) ≡ false → (a ≡ false) × (b ≡ false)
or_false true b h = absurd (true≢false h)
or_false false b h = (refl, h)

pub and_true : {a b : Bool} → a ≡ true → b ≡ true → (a && b) ≡ true
and_true h k = rw h k

pub and_left : (a b : Bool) → (a && b) ≡ true → a ≡ true
and_left true b h = refl
and_left false b h = h

pub and_right : (a b : Bool) → (a && b) ≡ true → b ≡ true
and_right true b h = h
and_right false b h = absurd (false≢true h)

pub truth : (b : Bool) → (b ≡ true) ⊎ (b ≡ false)
truth true = inl refl
truth false = inr refl

-- two tests that pass alike are equal
pub same_truth : (a b : Bool) → (a ≡ true → b ≡ true) → (b ≡ true → a ≡ true) → a ≡ b
same_truth true b f g = sym (f refl)
same_truth false true f g = g refl
same_truth false false f g = refl

-- what holds of both choices holds of the one that a test makes
pub on_cond : {A : Type 0} (P : A → Type 0) (b : Bool) (x y : A) → (b ≡ true → P x) → (b ≡ false → P y) → P (cond b x y)
on_cond P true x y h k = h refl
on_cond P false x y h k = k refl

pub any_at : (n : ℕ) (p : ℕ → Bool) (l : ℕ) → l < n → p l ≡ true → any n p ≡ true
any_at zero p l h e = absurd (not-suc-le-zero h)
any_at (suc n) p l h e = go (ℕ_discrete l n) (λ k. any_at n p l k e)
  where
    go : Dec (l ≡ n) → (l < n → any n p ≡ true) → (p n || any n p) ≡ true
    go (yes q) ih = or_left (any n p) (ap p (sym q) ∙ e)
    go (no q) ih = or_right (p n) (ih (omega arith))

pub any_find : (n : ℕ) (p : ℕ → Bool) → any n p ≡ true → (l : ℕ) × (l < n) × (p l ≡ true)
any_find zero p h = absurd (false≢true h)
any_find (suc n) p h = go (or_cases (p n) (any n p) h) (λ k. any_find n p k)
  where
    go : (p n ≡ true) ⊎ (any n p ≡ true) → (any n p ≡ true → (l : ℕ) × (l < n) × (p l ≡ true)) → (l : ℕ) × (l < suc n) × (p l ≡ true)
    go (inl e) ih = (n, omega arith, e)
    go (inr e) ih = let t = ih e in (t.0, omega arith, t.2)

pub any_false : (n : ℕ) (p : ℕ → Bool) → any n p ≡ false → (l : ℕ) → l < n → p l ≡ false
any_false n p e l h = go (truth (p l))
  where
    go : (p l ≡ true) ⊎ (p l ≡ false) → p l ≡ false
    go (inl t) = absurd (true≢false (sym (any_at n p l h t) ∙ e))
    go (inr t) = t

pub all_at : (n : ℕ) (p : ℕ → Bool) → all n p ≡ true → (l : ℕ) → l < n → p l ≡ true
all_at zero p h l k = absurd (not-suc-le-zero k)
all_at (suc n) p h l k = go (ℕ_discrete l n) (λ m. all_at n p (and_right (p n) (all n p) h) l m)
  where
    go : Dec (l ≡ n) → (l < n → p l ≡ true) → p l ≡ true
    go (yes q) ih = ap p q ∙ and_left (p n) (all n p) h
    go (no q) ih = ih (omega arith)

pub all_off : (n : ℕ) (p : ℕ → Bool) (l : ℕ) → l < n → p l ≡ false → all n p ≡ false
all_off n p l h e = go (all n p) refl
  where
    go : (b : Bool) → all n p ≡ b → b ≡ false
    go true a = absurd (true≢false (sym (all_at n p a l h) ∙ e))
    go false a = refl

pub any_same : (n : ℕ) (p q : ℕ → Bool) → ((l : ℕ) → l < n → p l ≡ q l) → any n p ≡ any n q
any_same zero p q h = refl
any_same (suc n) p q h = ap₂ ◌||◌ (h n (omega arith)) (any_same n p q (λ l k. h l (omega arith)))

-- what a test that is `true` iff P says
pub fails_not : {r : Bool} {P : Type 0} → (r ≡ true) ↔ P → not r ≡ true → ¬ P
fails_not e t p = true≢false (sym (e.1 p) ∙ not-true _ t)

pub passes_so : {r : Bool} {P : Type 0} → (r ≡ true) ↔ P → not r ≡ false → P
passes_so e t = e.0 (not-false _ t)
