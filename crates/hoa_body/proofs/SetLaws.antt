-- The first that there is, by the lowest member of a set.
use mathlib.Core.Path.{◌≡◌, ap, ◌∙◌}
use mathlib.Core.Bool.{cond}
use mathlib.Core.Option.{Option, none, some}
use Prim.Native.Nat.{ℕ, ◌≤◌, ◌<◌}
use native.Mathlib.Omega.{arith}
use Rattle.meaning.specs.BitSet.{has}
use Rattle.hoa_text.specs.Basics.{first}
use Rattle.hoa_text.specs.First.{none_first, first_some}
use Rattle.bits.specs.Sets.{Lowest}

module _ {A : Type 0} (set n r : ℕ) (low : Lowest set n r) (f : ℕ → Option A) (x : ℕ → A) (is : (i : ℕ) → i < n → f i ≡ cond (has set i) (some (x i)) none) where
  lower : (i : ℕ) → i < n → i < r → f i ≡ none
  lower i h g = is i h ∙ ap (λ b. cond b (some (x i)) none) (low.lower i g)

  pub first_found : r < n → first n f ≡ some (x r)
  first_found h = first_some n f r (x r) h (is r h ∙ ap (λ b. cond b (some (x r)) none) (low.found h)) (λ i g. lower i (omega arith) g)

  pub first_lacks : n ≤ r → first n f ≡ none
  first_lacks h = none_first n f (λ i g. lower i g (omega arith))
