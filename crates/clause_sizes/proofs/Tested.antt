-- The test of counts: it passes if and only if a file can have them.
use mathlib.Core.Path.{◌≡◌, sym, ◌∙◌}
use mathlib.Core.Logic.{◌↔◌}
use mathlib.Core.Bool.{true, ◌&&◌}
use Prim.Native.Nat.{ℕ, ◌^◌, min}
use lib.Dec.{leb, eqb}
use Rattle.bits.specs.Powers.{power_is}
use Rattle.clause_sizes.specs.declared.Counts.{Counts}
use Rattle.clause_sizes.specs.Sizes.{Counting}
use Rattle.clause_sizes.specs.Conjunctions.{both, at_most, equal}

pub counting_test : (c : Counts) (most : ℕ) {p : ℕ} → p ≡ 2 ^ min c.sets 4
    → ((((leb 1 c.states && leb c.states most) && leb c.sets 4) && eqb c.subsets p) ≡ true) ↔ Counting most c
counting_test c most {p} e =
    let t = both (both (both (at_most 1 c.states) (at_most c.states most)) (at_most c.sets 4)) (equal c.subsets p) in (
      λ h. let (((a, b), d), g) = t.0 h in record { some = a; states_le = b; sets_le = d; subsets_is = g ∙ power_is d e },
      λ k. t.1 (((k.some, k.states_le), k.sets_le), k.subsets_is ∙ sym (power_is k.sets_le e)),
    )
