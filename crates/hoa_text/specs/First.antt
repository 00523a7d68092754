-- Laws of the first that there is among f 0, f 1, .., n of them.
use Rattle.std.specs.Prelude.{◌≡◌, refl, ℕ, zero, suc, ◌<◌}
use Rattle.std.proofs.Common.{sym, ap, ◌∙◌, not-suc-le-zero, arith}
use Rattle.std.proofs.Math.Option.{Option, none, some}
use Rattle.std.proofs.Math.Decide.{ℕ_discrete}
use Rattle.hoa_text.specs.Basics.{option, first}

pub first_none : {A : Type 0} (n : ℕ) (f : ℕ → Option A) → first n f ≡ none → (i : ℕ) → i < n → f i ≡ none
first_none zero f e i h = absurd (not-suc-le-zero h)
first_none {A} (suc n) f e i h = go (first n f) refl e (ℕ_discrete i n) (λ k. first_none n f k i)
  where
    go : (x : Option A) → first n f ≡ x → option x (f n) some ≡ none → Dec (i ≡ n) → (first n f ≡ none → i < n → f i ≡ none) → f i ≡ none
    go none g e (yes d) ih = ap f d ∙ e
    go none g e (no d) ih = ih g (omega arith)
    go (some a) g e d ih = let z : ◌≡◌ {A = ℕ} 0 1 = cc in absurd (omega arith)

pub none_first : {A : Type 0} (n : ℕ) (f : ℕ → Option A) → ((i : ℕ) → i < n → f i ≡ none) → first n f ≡ none
none_first zero f h = refl
none_first (suc n) f h = ap (λ x. option x (f n) some) (none_first n f (λ i g. h i (omega arith))) ∙ h n (omega arith)

pub first_some : {A : Type 0} (n : ℕ) (f : ℕ → Option A) (i : ℕ) (a : A) → i < n → f i ≡ some a → ((j : ℕ) → j < i → f j ≡ none) → first n f ≡ some a
first_some zero f i a h e g = absurd (not-suc-le-zero h)
first_some (suc n) f i a h e g = go (ℕ_discrete i n) (λ k. first_some n f i a k e g)
  where
    go : Dec (i ≡ n) → (i < n → first n f ≡ some a) → option (first n f) (f n) some ≡ some a
    go (yes d) ih = ap (λ x. option x (f n) some) (none_first n f (λ j k. g j (omega arith))) ∙ ap f (sym d) ∙ e
    go (no d) ih = ap (λ x. option x (f n) some) (ih (omega arith))
