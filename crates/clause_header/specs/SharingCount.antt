-- HOW MANY CLAUSES group 3 has: for each q, p, t, I, J and K, as many as there are u, v and l for which u has paths to v and to the step from v by l.
use Rattle.std.specs.Prelude.{◌≡◌, ◌&&◌, List, ℕ, ◌+◌, ◌*◌, ◌/◌, ◌%◌, get_or}
use Rattle.std.proofs.Common.{sym, ap₂, ◌∙◌}
use Rattle.meaning.specs.BitSet.{bit}
use Rattle.meaning.specs.Counting.{total}
use Rattle.meaning.specs.Totals.{total_same, total_total}
use Rattle.encoding.specs.Variables.{sharing}
use Rattle.clause_sizes.specs.declared.Sizes.{Sizes}
use Rattle.clause_sizes.specs.Numbers.{kept_among}
use Rattle.clause_list.specs.Tables.{task_of, Tables}

module _ (z : Sizes) (destinations : List ℕ) where
  -- 1 where both paths of group 3's clauses for u, v and l are there
  abbrev pub shares_by : (u v l : ℕ) → ℕ
  shares_by u v l = bit (kept_among z u v && kept_among z u (get_or destinations (v * 16 + l) 0))

  -- for all u, v and l, the last fastest
  abbrev pub sharing_count : ℕ
  sharing_count =
      let r = z.reference.states in
      let L = z.letters in
      total (r * r * L) (λ y. shares_by (y / L / r) (y / L % r) (y % L))

module _ (z : Sizes) (start : ℕ) (destinations marks : List ℕ) (tables : Tables z destinations marks) where
  pub sharing_is : sharing (task_of z start destinations marks) ≡ sharing_count z destinations
  sharing_is =
      let r = z.reference.states in
      let L = z.letters in
      let kept_is = (tables.rowed start).sets_are in
      total_same r _ _
      (λ u hu. total_same r _ _
      (λ v hv. total_same L _ (shares_by z destinations u v) (λ l hl. ap₂ (λ a b. bit (a && b)) (sym (kept_is u v hu hv)) (sym (kept_is u _ hu (tables.step_lt v l hv hl))))))
      ∙ total_total r r (λ u v. total L (shares_by z destinations u v))
      ∙ total_total (r * r) L (λ x l. shares_by z destinations (x / r) (x % r) l)
