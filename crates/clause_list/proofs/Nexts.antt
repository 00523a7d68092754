-- The search for the next clause, from position to position.
use mathlib.Core.Path.{◌≡◌, refl, ap, ◌∙◌, subst}
use mathlib.Core.List.{List, []}
use Prim.Native.Nat.{ℕ, ◌+◌, ◌-◌, ◌≤◌, ◌<◌}
use native.Mathlib.Decide.{ℕ_discrete}
use native.Mathlib.Omega.{arith}
use lib.IntN.{ℤ}
use Rattle.std.specs.Prelude.{Some, None}
use Rattle.encoding.specs.Positions.{at_position, positions}
use Rattle.decimal.specs.Wrote.{Wrote}
use Rattle.clause_sizes.specs.declared.Sizes.{Sizes}
use Rattle.clause_sizes.specs.Numbers.{number_of}
use Rattle.clause_indices.specs.declared.extent.Extent.{Extent}
use Rattle.clause_list.specs.Tables.{task_of, Tables}
use Rattle.clause_list.specs.Position.{Alone, Stands}
use Rattle.clause_indices.specs.Indices.{ExtentOf}
use Rattle.clause_list.specs.Next.{next_clause}
use Rattle.clause_list.specs.Following.{next_over, next_here, next_end}
use Rattle.clause_list.specs.Gaps.{absent_empty}
use Rattle.clause_list.specs.Handing.{Hands}
use Rattle.clause_list.specs.Stretches.{Onward}

module _ (z : Sizes) (start : ℕ) (destinations marks : List ℕ) where
  -- before the clause at x is looked at: no clause from `from` on to x, and nothing written
  pub record Waiting (from x : ℕ) (d e : List ℤ) : Type 0 where
    pub same : next_clause (task_of z start destinations marks) (number_of z) from ≡ next_clause (task_of z start destinations marks) (number_of z) x
    pub untouched : e ≡ d

module _ {z : Sizes} {start : ℕ} {destinations marks : List ℕ} where
  pub waiting_start : (x : ℕ) (d : List ℤ) → Waiting z start destinations marks x x d d
  waiting_start x d = record { same = refl; untouched = refl }

  module _ {g : Extent} (k : ExtentOf z g) {from x : ℕ} {d o : List ℤ} (w : Waiting z start destinations marks from x d o) where
    within : x < g.all → x < positions (task_of z start destinations marks) (number_of z)
    within h = omega (arith, k.all_is, k.first_is, k.second_is, k.third_is)

    -- no clause stands at x, nor further on before y
    pub waiting_more : {e : List ℤ} → x < g.all → Stands o (at_position (task_of z start destinations marks) (number_of z) x) e None → {y : ℕ} → Tables z destinations marks
        → Onward z g destinations x y → Waiting z start destinations marks from y d e
    waiting_more h (q, v) {y} tables (past, to, gap) =
        let over = next_over (task_of z start destinations marks) (number_of z) (y - x) x (omega (arith, k.all_is, k.first_is, k.second_is, k.third_is))
        (λ i h u. by_place i (ℕ_discrete i x) h (omega arith)) in
        let e : x + (y - x) ≡ y = omega arith in
        record { same = w.same ∙ over ∙ ap (next_clause (task_of z start destinations marks) (number_of z)) e; untouched = v ∙ w.untouched }
      where
        by_place : (i : ℕ) → Dec (i ≡ x) → x ≤ i → i < y → at_position (task_of z start destinations marks) (number_of z) i ≡ []
        by_place i (yes p) h u = ap (at_position (task_of z start destinations marks) (number_of z)) p ∙ q
        by_place i (no p) h u = absent_empty start tables k (gap i (omega arith) u)

    pub waiting_here : {e : List ℤ} {r : ℕ} → x < g.all → Alone o (at_position (task_of z start destinations marks) (number_of z) x) e r
        → Hands (next_clause (task_of z start destinations marks) (number_of z) from) d e (record { length = Some r; position = x + 1 })
    waiting_here {e} {r} h a =
        (a.clause, w.same ∙ next_here _ (number_of z) x (within h) a.alone, subst (λ b. Wrote b 0 a.clause e r) w.untouched a.wrote, a.some)

    pub waiting_end : g.all ≤ x
        → Hands (next_clause (task_of z start destinations marks) (number_of z) from) d o (record { length = None; position = x })
    waiting_end h =
        (w.same ∙ next_end (task_of z start destinations marks) (number_of z) x (omega (arith, k.all_is, k.first_is, k.second_is, k.third_is)), w.untouched)
