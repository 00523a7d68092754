-- What a loop that tests the numbers below n, one after another, knows.
use Rattle.std.specs.Prelude.{◌≡◌, refl, ◌↔◌, Bool, true, false, List, ℕ, ◌+◌, ◌≤◌, ◌<◌, length, EachIndex}
use Rattle.std.proofs.Common.{sym, subst, arith, le_antisymm, add-one}
use Rattle.meaning.specs.TestLaws.{and_true, same_truth, all_at, all_off}
use Rattle.meaning.proofs.AllLaws.{all_of}
use Rattle.automaton.specs.Tests.{passes}

pub passes_none : (p : ℕ → Bool) → passes 0 p ≡ true
unfolding passes
passes_none p = refl

-- one more test is passed
pub passes_more : (p : ℕ → Bool) (i : ℕ) → passes i p ≡ true → p i ≡ true → passes (i + 1) p ≡ true
unfolding passes
passes_more p i h e = rw (add-one i) (and_true e h)

-- a test fails
pub fails : (p : ℕ → Bool) (n i : ℕ) → i < n → p i ≡ false → false ≡ passes n p
unfolding passes
fails p n i h e = sym (all_off n p i h e)

-- all are passed
pub passes_all : (p : ℕ → Bool) (n i : ℕ) → i ≤ n → n ≤ i → passes i p ≡ true → true ≡ passes n p
passes_all p n i g h e = sym (subst (λ k. passes k p ≡ true) (le_antisymm g h) e)

-- ---- what a test of all says of each
pub passes_at : (n : ℕ) (p : ℕ → Bool) → passes n p ≡ true → (i : ℕ) → i < n → p i ≡ true
unfolding passes
passes_at n p = all_at n p

pub passes_of : (n : ℕ) (p : ℕ → Bool) → ((i : ℕ) → i < n → p i ≡ true) → passes n p ≡ true
unfolding passes
passes_of n p = all_of n p

-- a test that passes if and only if each entry of a list does
pub passes_each : {r : Bool} (n : ℕ) (p : ℕ → Bool) (xs : List ℕ) → length xs ≡ n → (r ≡ true) ↔ EachIndex xs (λ k. p k ≡ true) → r ≡ passes n p
passes_each n p xs size e = same_truth _ _
    (λ t. passes_of n p (λ i h. e.0 t i (omega (arith, size))))
    (λ t. e.1 (λ i h. passes_at n p t i (omega (arith, size))))
