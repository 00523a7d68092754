-- Laws of `all`: what holds at each number below a bound holds of all of them.
use Rattle.std.specs.Prelude.{◌≡◌, refl, Bool, true, ℕ, zero, suc, ◌<◌}
use Rattle.std.proofs.Common.{sym, ◌∙◌, arith}
use Rattle.meaning.specs.Tests.{all}
use Rattle.meaning.specs.TestLaws.{and_true, same_truth, all_at}

pub all_of : (n : ℕ) (p : ℕ → Bool) → ((l : ℕ) → l < n → p l ≡ true) → all n p ≡ true
all_of zero p h = refl
all_of (suc n) p h = and_true (h n (omega arith)) (all_of n p (λ l k. h l (omega arith)))

pub all_same : (n : ℕ) (p q : ℕ → Bool) → ((l : ℕ) → l < n → p l ≡ q l) → all n p ≡ all n q
all_same n p q h = same_truth (all n p) (all n q) (λ a. all_of n q (λ l k. sym (h l k) ∙ all_at n p a l k)) (λ a. all_of n p (λ l k. h l k ∙ all_at n q a l k))
