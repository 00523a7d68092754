-- Full sets, and sums of what rows hold.
use mathlib.Core.Path.{◌≡◌, refl, ap, ap₂, ◌∙◌}
use mathlib.Core.List.{List}
use Prim.Native.Nat.{ℕ, ◌+◌, ◌-◌, ◌*◌, ◌%◌, ◌^◌, ◌≤◌, ◌<◌, min}
use native.Mathlib.Numerals.{add-one}
use native.Mathlib.Omega.{arith}
use lib.ListN.{length, get_or, set}
use Rattle.meaning.specs.BitSet.{has}
use Rattle.meaning.specs.Counting.{total}
use Rattle.meaning.specs.CountingLaws.{Filled, filled_none, filled_more}
use Rattle.meaning.specs.Totals.{how_many_le}
use Rattle.bits.specs.Members.{shift_is}
use Rattle.clause_rows.specs.Rows.{full_set, held}

-- ---- full sets

pub full_low : (k : ℕ) → k < 16 → 1 * 2 ^ k % 65536 - 1 ≡ full_set k
full_low k h = let e : k ≡ min k 16 = omega arith in ap (λ x. x - 1) (shift_is k h ∙ ap (λ j. 2 ^ j) e)

pub full_all : (k : ℕ) → 16 ≤ k → 65535 ≡ full_set k
full_all k h = let e : 16 ≡ min k 16 = omega arith in ap (λ j. 2 ^ j - 1) e

-- ---- sums

pub record Summed (sets before : List ℕ) (sum u : ℕ) : Type 0 where
  pub filled : Filled (λ k. total k (held sets)) 16 before u
  pub sum_is : sum ≡ total u (held sets)
  pub sum_le : sum ≤ 16 * u

pub summed_none : (sets before : List ℕ) → length before ≡ 16 → Summed sets before 0 0
unfolding total
summed_none sets before e = record { filled = filled_none _ 16 before e; sum_is = refl; sum_le = omega arith }

pub summed_more : (sets before : List ℕ) (sum u : ℕ) {x : ℕ} → Summed sets before sum u → u < 16 → x ≡ held sets u → Summed sets (set before u sum) (sum + x) (u + 1)
unfolding total
summed_more sets before sum u S h e = record {
  filled = filled_more _ 16 before u sum S.filled h S.sum_is;
  sum_is = rw (add-one u) (ap₂ ◌+◌ S.sum_is e);
  sum_le = omega (arith, S.sum_le, e, how_many_le 16 (has (get_or sets u 0)));
}
