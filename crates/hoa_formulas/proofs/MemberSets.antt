-- Laws of sets of letters, or of sets of marks: which of them satisfy a formula, bit by bit.
use mathlib.Core.Path.{◌≡◌, sym, ap, ap₂, ◌∙◌}
use mathlib.Core.Bool.{Bool, true, false, not, cond, ◌&&◌, ◌||◌, and-true, and-false, or-false}
use Prim.Native.Nat.{ℕ, zero, suc, ◌%◌, ◌^◌, ◌≤◌, ◌<◌}
use native.Mathlib.Decide.{ℕ_discrete}
use native.Mathlib.Nat.{div-eq_of_lt}
use native.Mathlib.Omega.{arith}
use borrow.Author.Tests.{eq-eqb, ne_eqb}
use lib.Bits.{bit_and, bit_or, bit_xor}
use lib.Dec.{eqb}
use lib.Pow.{pow_mono}
use Rattle.meaning.specs.BitSet.{digit, has}
use Rattle.meaning.specs.BitSetLaws.{has_or, has_and, has_zero}
use Rattle.meaning.proofs.FullSets.{has_all, has_not}
use Rattle.bits.specs.SingleSets.{has_single}
use Rattle.hoa_text.specs.Formulas.{Formula, proposition, top, bottom, negation, conjunction, disjunction, holds}
use Rattle.hoa_formulas.specs.Answers.{Satisfy}

pub all_members : Satisfy 65535 top
all_members l h = has_all l h

pub no_members : Satisfy 0 bottom
no_members l h = has_zero l

pub members_not : (a : ℕ) (f : Formula) → Satisfy a f → Satisfy (bit_xor a 65535) (negation f)
members_not a f h l g = has_not a l g ∙ ap not (h l g)

pub members_and : (a b : ℕ) (f g : Formula) → Satisfy a f → Satisfy b g → Satisfy (bit_and a b) (conjunction f g)
members_and a b f g h k l i = has_and a b l ∙ ap (λ x. x && has b l) (h l i) ∙ ap (λ x. holds f l && x) (k l i)

pub members_or : (a b : ℕ) (f g : Formula) → Satisfy a f → Satisfy b g → Satisfy (bit_or a b) (disjunction f g)
members_or a b f g h k l i = has_or a b l ∙ ap (λ x. x || has b l) (h l i) ∙ ap (λ x. holds f l || x) (k l i)

-- ---- the letters that have a proposition, the sets of marks that have a set

-- among the letters below n: one after another
abbrev letters_with : ℕ → ℕ → ℕ
letters_with zero i = 0
letters_with (suc n) i = bit_or (letters_with n i) (cond (has n i) (2 ^ n) 0)

-- the letter n alone, or none
has_one : (b : Bool) (n l : ℕ) → has (cond b (2 ^ n) 0) l ≡ (b && eqb l n)
has_one true n l = has_single n l
has_one false n l = has_zero l

letters_from : (n i l : ℕ) → n ≤ l → has (letters_with n i) l ≡ false
letters_from zero i l h = has_zero l
letters_from (suc n) i l h =
    has_or (letters_with n i) (cond (has n i) (2 ^ n) 0) l
    ∙ ap₂ ◌||◌ (letters_from n i l (omega arith)) (has_one (has n i) n l ∙ ap (λ b. has n i && b) (ne_eqb l n (λ e. omega arith)) ∙ and-false (has n i))

letters_below : (n i l : ℕ) → l < n → has (letters_with n i) l ≡ has l i
letters_below zero i l h = absurd (omega arith)
letters_below (suc n) i l h = has_or (letters_with n i) (cond (has n i) (2 ^ n) 0) l ∙ go (ℕ_discrete l n) (λ g. letters_below n i l g)
  where
    go : Dec (l ≡ n) → (l < n → has (letters_with n i) l ≡ has l i) → (has (letters_with n i) l || has (cond (has n i) (2 ^ n) 0) l) ≡ has l i
    go (yes e) ih =
        ap₂ ◌||◌ (letters_from n i l (omega arith)) (has_one (has n i) n l ∙ ap (λ b. has n i && b) (eq-eqb l n e) ∙ and-true (has n i)) ∙ ap (λ m. has m i) (sym e)
    go (no e) ih =
        ap₂ ◌||◌ (ih (omega arith)) (has_one (has n i) n l ∙ ap (λ b. has n i && b) (ne_eqb l n e) ∙ and-false (has n i)) ∙ or-false (has l i)

-- for each proposition i
pub letters_with_lem : (i : ℕ) → Satisfy (letters_with 16 i) (proposition i)
letters_with_lem i l h = letters_below 16 i l h

-- a letter has no proposition past the fourth
pub letters_past : (i : ℕ) → 4 ≤ i → Satisfy 0 (proposition i)
letters_past i h l g = has_zero l ∙ sym (ap (λ n. digit (n % 2)) (div-eq_of_lt (below i h l g)))
  where
    below : (i : ℕ) → 4 ≤ i → (l : ℕ) → l < 16 → l < 2 ^ i
    below i h l g = let m : 16 ≤ 2 ^ i = pow_mono {i = 4} h in omega arith
