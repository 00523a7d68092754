-- Laws of what stands behind `Acceptance:`: the number of sets, the formula, and its members among their sets of marks.
use mathlib.Core.Path.{◌≡◌, refl, sym, ap, ◌∙◌}
use mathlib.Core.Bool.{◌&&◌, and-true}
use mathlib.Core.List.{List}
use Prim.Native.Nat.{ℕ, ◌-◌, ◌^◌, ◌≤◌, min}
use native.Mathlib.Omega.{arith}
use borrow.Author.Tests.{le-leb}
use lib.Bits.{bit_and, mask_lt}
use Rattle.meaning.specs.BitSet.{has, set_of}
use Rattle.meaning.specs.BitSetLaws.{has_and, has_same}
use Rattle.meaning.proofs.FullSets.{has_below}
use Rattle.meaning.specs.MarkSets.{set_of_lt, set_of_same, has_set_of}
use Rattle.bits.specs.Powers.{power_is, power_le}
use Rattle.std.specs.Prelude.{Result, Ok, Err}
use Rattle.refusals.specs.declared.Refusal.{Refusal}
use Rattle.hoa_text.specs.Grammar.{gives, then}
use Rattle.hoa_text.specs.Formulas.{Formula, holds, acceptance_formula}
use Rattle.hoa_text.specs.Header.{acceptance_of, sets_read, sets_item, with_acceptance}
use Rattle.hoa_text.specs.Tokens.{left}
use Rattle.hoa_tokens.specs.declared.Token.TheVariants.{Number}
use Rattle.hoa_tokens.specs.Answers.{Reads}
use Rattle.hoa_formulas.specs.Answers.{Satisfy, Read}
use Rattle.hoa_acceptance.specs.declared.SetsRead.{SetsRead}
use Rattle.hoa_acceptance.specs.Answers.{SetsAnswered, ReadsSets}
use Rattle.hoa_acceptance.specs.Parts.{ReadsCondition}

-- ---- the members below n

pub own_members : (n x : ℕ) → bit_and x (2 ^ n - 1) ≡ set_of n (has x)
own_members n x =
    has_same n (bit_and x (2 ^ n - 1)) (set_of n (has x)) (mask_lt x n) (set_of_lt n (has x)) (λ i h.
    has_and x (2 ^ n - 1) i ∙ ap (λ b. has x i && b) (has_below n i h) ∙ and-true (has x i) ∙ sym (has_set_of n (has x) i h))

-- ---- the formula

mask_is : (m x p : ℕ) (f : Formula) → m ≤ 4 → Satisfy x f → p ≡ set_of (2 ^ min m 4) (has x) → p ≡ acceptance_of m f
mask_is m x p f h g e =
    e ∙ ap (λ n. set_of n (has x)) (power_is h refl) ∙ set_of_same (2 ^ m) (has x) (holds f) (λ y l. g y (omega (arith, power_le h)))

module _ (s : List ℕ) (i m : ℕ) where
  pub condition_read : m ≤ 4 → (x p e : ℕ) → Read s i (acceptance_formula m (left s i)) x e → p ≡ set_of (2 ^ min m 4) (has x) → ReadsCondition s i m (Ok (record { sets = m; acceptance = p; end = e }))
  condition_read l x p e g q h = record {
    is = ap (λ y. then y (sets_read h m)) g.is ∙ ap (λ p. gives (with_acceptance h m p, left s e)) (sym (mask_is m x p g.formula l g.members q));
    from = g.from;
    to = g.to;
  }

-- ---- what stands behind `Acceptance:`

module _ (s : List ℕ) (i : ℕ) where
  module _ (o m e : ℕ) (h : Reads s i (Number o m e)) where
    pub sets_read_lem : m ≤ 4 → (r : Result SetsRead Refusal) → ReadsCondition s e m r → ReadsSets s i r
    sets_read_lem l r x g = go r (x g)
      where
        counted : sets_item g (left s i) ≡ then (acceptance_formula m (left s e)) (sets_read g m)
        counted = ap (sets_item g) h.is ∙ rw (le-leb m 4 l)

        go : (r : Result SetsRead Refusal) → SetsAnswered s e g (then (acceptance_formula m (left s e)) (sets_read g m)) r → SetsAnswered s i g (sets_item g (left s i)) r
        go (Ok k) x = record { is = counted ∙ x.is; from = omega (arith, h.lies.from, h.lies.longer, x.from); to = x.to }
        go (Err z) x = counted ∙ x
