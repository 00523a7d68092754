-- The sets of the states that a state has path variables to, of the first list.
use mathlib.Core.Path.{◌≡◌, sym, ap, ◌∙◌}
use mathlib.Core.Bool.{true, cond}
use Prim.Native.Nat.{ℕ, ◌-◌, ◌^◌, ◌≤◌, min}
use native.Mathlib.Omega.{arith}
use lib.Dec.{ltb}
use lib.Pow.{ones_lt}
use Rattle.meaning.specs.BitSet.{set_of}
use Rattle.meaning.proofs.FullSets.{has_below}
use Rattle.meaning.specs.BitSetLaws.{has_same}
use Rattle.meaning.specs.MarkSets.{has_set_of, set_of_lt}
use Rattle.automaton.specs.declared.Automaton.{Automaton}
use Rattle.automaton.specs.Value.{Valid, table}
use Rattle.clause_rows.specs.Rows.{everywhere, full_set}
use Rattle.clause_sizes.specs.declared.Listing.TheVariants.{First}
use Rattle.clause_sizes.specs.Sizes.{kept_sets}

full_is : (k : ℕ) → k ≤ 16 → full_set k ≡ set_of k (λ i. true)
full_is k h =
    let e : min k 16 ≡ k = omega arith in
    ap (λ j. 2 ^ j - 1) e ∙ has_same k (2 ^ k - 1) (set_of k (λ i. true)) (ones_lt k) (set_of_lt k (λ i. true)) (λ i l. has_below k i l ∙ sym (has_set_of k (λ i. true) i l))

pub first_sets : {a : Automaton} → Valid a → everywhere a.states ≡ kept_sets a First
first_sets {a} v = ap (λ s. table 16 (λ u. cond (ltb u a.states) s 0)) (full_is a.states v.states_le)
