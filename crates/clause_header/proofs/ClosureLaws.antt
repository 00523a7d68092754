-- Group 4 has as many clauses as counted.
use Rattle.std.specs.Prelude.{◌≡◌, refl, Bool, true, false, cond, ◌&&◌, List, ℕ, ◌+◌, ◌*◌, ◌^◌, ◌<◌, length, get_or}
use Rattle.std.proofs.Common.{sym, ap, ap₂, ◌∙◌, arith}
use Rattle.meaning.specs.BitSet.{bit, has}
use Rattle.meaning.specs.Counting.{total}
use Rattle.meaning.specs.Totals.{total_same, total_const, total_swap, total_total}
use Rattle.encoding.specs.Variables.{Var}
use Rattle.encoding.specs.Clauses.{◌∪◌, exactly_one, group₄}
use Rattle.encoding.specs.Counts.{length₄}
use Rattle.clause_sizes.specs.declared.Sizes.{Sizes}
use Rattle.clause_list.specs.Tables.{task_of, Tables}
use Rattle.clause_list.specs.Position.{exactly_one_is}
use Rattle.clause_header.specs.Sums.{passing_xor}
use Rattle.clause_header.specs.ClosureCount.{yes_pairs, closures_by, closures_from, closure_count}

-- what is counted only where b holds
counted_if : (b : Bool) (n k : ℕ) (f : ℕ → ℕ → ℕ → Bool)
    → total n (λ i. total k (λ j. total n (λ h. bit (b && f i j h)))) ≡ cond b (total n (λ i. total k (λ j. total n (λ h. bit (f i j h))))) 0
counted_if true n k f = refl
counted_if false n k f =
    total_same n _ (λ i. 0) (λ i hi. total_same k _ (λ j. 0) (λ j hj. total_const n 0 ∙ omega arith) ∙ total_const k 0 ∙ omega arith) ∙ total_const n 0 ∙ omega arith

module _ (z : Sizes) (start : ℕ) (destinations marks : List ℕ) (tables : Tables z destinations marks) where
  abbrev m : ℕ
  m = z.candidate.sets

  abbrev s : ℕ
  s = z.reference.sets

  -- of one transition
  transition_count : (v l : ℕ) → v < z.reference.states → l < z.letters
      → total (2 ^ m) (λ I. total (2 ^ s) (λ J. total (2 ^ m) (λ K. bit (exactly_one (task_of z start destinations marks) v l I J K))))
      ≡ closures_by z (yes_pairs z) (get_or marks (v * 16 + l) 0)
  transition_count v l hv hl =
      total_same (2 ^ m) _ _
      (λ I hI. total_same (2 ^ s) _ _ (λ J hJ. total_same (2 ^ m) _ _ (λ K hK. ap bit (exactly_one_is z start destinations marks tables v l I J K hv hl hI hJ hK))))
      ∙ total_swap (2 ^ m) (2 ^ s) _
      ∙ total_same (2 ^ s) _ _
      (λ J hJ. passing_xor (2 ^ m) (2 ^ m) (λ I K. has z.candidate.acceptance (I ∪ K)) (has z.reference.acceptance (J ∪ get_or marks (v * 16 + l) 0)))

  -- where there are its paths
  kept_count : (v l : ℕ) → v < z.reference.states → l < z.letters
      → total (2 ^ m) (λ I. total (2 ^ s) (λ J. total (2 ^ m) (λ K. bit ((task_of z start destinations marks).kept (get_or destinations (v * 16 + l) 0) v && exactly_one (task_of z start destinations marks) v l I J K))))
      ≡ closures_from z (yes_pairs z) v (get_or destinations (v * 16 + l) 0) (get_or marks (v * 16 + l) 0)
  kept_count v l hv hl =
      counted_if ((task_of z start destinations marks).kept (get_or destinations (v * 16 + l) 0) v) (2 ^ m) (2 ^ s) (exactly_one (task_of z start destinations marks) v l)
      ∙ ap₂ (λ b k. cond b k 0) (sym ((tables.rowed start).sets_are _ v (tables.step_lt v l hv hl) hv)) (transition_count v l hv hl)

  pub closure_length : (num : Var → ℕ) → length (group₄ (task_of z start destinations marks) num) ≡ z.candidate.states * z.candidate.states * closure_count z destinations marks
  closure_length num =
      length₄ (task_of z start destinations marks) num
      ∙ ap (λ k. z.candidate.states * (z.candidate.states * k))
      (total_same z.reference.states _ _ (λ v hv. total_same z.letters _ _ (λ l hl. kept_count v l hv hl))
      ∙ total_total z.reference.states z.letters (λ v l. closures_from z (yes_pairs z) v (get_or destinations (v * 16 + l) 0) (get_or marks (v * 16 + l) 0)))
      ∙ omega arith
