-- A set that is joined with another, and a row that is stored with more members.
use mathlib.Core.Path.{◌≡◌, refl, sym, ap, ◌∙◌, subst}
use mathlib.Core.Logic.{◌⊎◌, inl, inr, ◌≢◌}
use mathlib.Core.Bool.{Bool, true, false, ◌&&◌, ◌||◌, or-false}
use mathlib.Core.List.{List}
use Prim.Native.Nat.{ℕ, ◌<◌}
use native.Mathlib.Decide.{ℕ_discrete}
use native.Mathlib.Omega.{arith}
use lib.Bits.{bit_or}
use lib.Dec.{eqb}
use lib.ListN.{length, get_or, set, length-set}
use lib.Seq.{get_or-set_same, get_or-set_other}
use Rattle.meaning.specs.BitSet.{has}
use Rattle.meaning.specs.BitSetLaws.{has_or}
use Rattle.meaning.specs.TestLaws.{or_left, or_right, or_cases, and_true, and_left, and_right}
use Rattle.bits.specs.Sets.{single}
use Rattle.bits.specs.SetLaws.{single_is}
use Rattle.bits.specs.SingleSets.{has_single}
use Rattle.reach.specs.Closing.{Joined, in_row}

pub joined_yes : (set more : ℕ) {test : Bool} → test ≡ true → Joined set more test (bit_or set more)
joined_yes set more e = record { is = λ v. rw e (has_or set more v) }

pub joined_no : (set more : ℕ) {test : Bool} → test ≡ false → Joined set more test set
joined_no set more e = record { is = λ v. rw e (sym (or-false (has set v))) }

-- the set of d alone
pub has_alone : (d v : ℕ) → d < 16 → has (single d) v ≡ eqb v d
has_alone d v h = ap (λ s. has s v) (single_is h refl) ∙ has_single d v

-- `new` is `old` with another row u: with the members of `more` where the test passes
pub record Grown (old : List ℕ) (u more : ℕ) (test : Bool) (new : List ℕ) : Type 0 where
  pub size : length new ≡ 16
  pub small : get_or new u 0 < 65536
  pub here : (v : ℕ) → has (get_or new u 0) v ≡ (has (get_or old u 0) v || (test && has more v))
  pub rest : (x : ℕ) → x ≢ u → get_or new x 0 ≡ get_or old x 0

pub grown : (old : List ℕ) (u more : ℕ) (test : Bool) (r : ℕ) → length old ≡ 16 → u < 16 → r < 65536 → Joined (get_or old u 0) more test r → Grown old u more test (set old u r)
grown old u more test r s h m j = record {
  size = length-set old u r ∙ s;
  small = subst (λ x. x < 65536) (sym (get_or-set_same old u r 0 (omega arith))) m;
  here = λ v. ap (λ x. has x v) (get_or-set_same old u r 0 (omega arith)) ∙ j.is v;
  rest = λ x n. get_or-set_other old u x r 0 n;
}

module _ {old : List ℕ} {u more : ℕ} {test : Bool} {new : List ℕ} (g : Grown old u more test new) where
  pub kept : (x v : ℕ) → in_row old x v → in_row new x v
  kept x v e = go (ℕ_discrete x u)
    where
      go : Dec (x ≡ u) → in_row new x v
      go (yes q) = subst (λ x. in_row new x v) (sym q) (g.here v ∙ or_left (test && has more v) (subst (λ x. in_row old x v) q e))
      go (no q) = ap (λ s. has s v) (g.rest x q) ∙ e

  pub added : (v : ℕ) → test ≡ true → has more v ≡ true → in_row new u v
  added v t e = g.here v ∙ or_right (has (get_or old u 0) v) (and_true t e)

  pub gained : (x v : ℕ) → in_row new x v → in_row old x v ⊎ ((x ≡ u) × (test ≡ true) × (has more v ≡ true))
  gained x v e = go (ℕ_discrete x u)
    where
      split : x ≡ u → (has (get_or old u 0) v ≡ true) ⊎ ((test && has more v) ≡ true) → in_row old x v ⊎ ((x ≡ u) × (test ≡ true) × (has more v ≡ true))
      split q (inl o) = inl (subst (λ x. in_row old x v) (sym q) o)
      split q (inr n) = inr (q, and_left test (has more v) n, and_right test (has more v) n)

      go : Dec (x ≡ u) → in_row old x v ⊎ ((x ≡ u) × (test ≡ true) × (has more v ≡ true))
      go (yes q) = split q (or_cases (has (get_or old u 0) v) (test && has more v) (sym (g.here v) ∙ subst (λ x. in_row new x v) q e))
      go (no q) = inl (sym (ap (λ s. has s v) (g.rest x q)) ∙ e)
