-- THE NUMBERS of a file by its sizes are those of the named file, for every variable that there is, where the rows are those of its path variables; and so is V.
use Rattle.std.specs.Prelude.{◌≡◌, refl, Bool, cond, ℕ, suc, ◌+◌, ◌-◌, ◌*◌, ◌^◌, ◌≤◌, ◌<◌, ltb, get_or}
use Rattle.std.proofs.Common.{sym, ap, ap₂, ◌∙◌, arith, lt-ltb, le-ltb}
use Rattle.meaning.specs.Automata.{Aut}
use Rattle.meaning.specs.BitSet.{bit, has, set_of}
use Rattle.meaning.specs.BitSetLaws.{has_zero}
use Rattle.meaning.specs.MarkSets.{has_set_of, set_of_lt}
use Rattle.meaning.specs.Counting.{total, how_many}
use Rattle.meaning.specs.CountingLaws.{each_at}
use Rattle.meaning.specs.Totals.{total_same, total_const, total_rest, total_mono, how_many_same}
use Rattle.bits.specs.SetLaws.{has_past}
use Rattle.automaton.specs.declared.Automaton.{Automaton}
use Rattle.automaton.specs.Value.{Valid}
use Rattle.automaton.specs.View.{view}
use Rattle.encoding.specs.Variables.{Task, Var, step, mark, path, Present}
use Rattle.encoding.specs.Named.{kept_by, task_for, number_for, variables_for}
use Rattle.encoding.specs.KeptPaths.{row, rank}
use Rattle.encoding.specs.NamedFile.{path_place, path_count}
use Rattle.clause_rows.specs.Rows.{held}
use Rattle.clause_sizes.specs.declared.Target.{Target}
use Rattle.clause_sizes.specs.declared.Sizes.{Sizes}
use Rattle.clause_sizes.specs.Targets.{named, which, task}
use Rattle.clause_sizes.specs.Sizes.{kept_sets, sizes_of, target_of}
use Rattle.clause_sizes.specs.Numbers.{before, in_row, rank_in, paths_in, Rowed, InFile, number_of, last_variable}

-- ---- of sizes whose rows are so, with any reference that has the counts

module _ (z : Sizes) (start : ℕ) (δ : ℕ → ℕ → ℕ) (μ : ℕ → ℕ → ℕ → Bool) (accept : (ℕ → Bool) → Bool) where
  abbrev pub sized : Aut
  sized = record {
    states = z.reference.states;
    letters = z.letters;
    sets = z.reference.sets;
    start = start;
    step = δ;
    marks = μ;
    accept = accept;
  }

  abbrev T : Task
  T = task_for sized (named (target_of z))

  abbrev r : ℕ
  r = z.reference.states

  module _ (R : Rowed z (task_for sized (named (target_of z))).kept) where
    -- its row lies among the pairs
    pub row_within : (u : ℕ) → u < z.reference.states → before z u + in_row z u ≤ z.paths.pairs
    unfolding total
    row_within u h = omega (arith, R.before_is u h, R.held_are u h, R.pairs_is, total_mono (suc u) r (λ i. how_many r (T.kept i)) h)

    pub present_in : (x : Var) → Present (task_for sized (named (target_of z))) x → InFile z x
    present_in (step q l p) h = h
    present_in (mark q l i p) h = h
    present_in (path q u p v I J) (hq, hu, hp, hv, hI, hJ, k) = ((hq, hu, hp, hv, hI, hJ, R.sets_are u v hu hv ∙ k), row_within u hu)

    rank_is : (u v : ℕ) → u < r → v < r → rank_in z u v ≡ rank T u v
    rank_is u v hu hv = how_many_same v _ _ (λ i h. R.sets_are u i hu (omega arith))

    place_is : (q u p v I J : ℕ) → Present T (path q u p v I J)
        → (paths_in z).place q u p v I J
        ≡ ((z.candidate.states * (q * total r (row T) + total u (row T)) + p * row T u + rank T u v) * 2 ^ z.candidate.sets + I) * 2 ^ z.reference.sets + J
    place_is q u p v I J (hq, hu, hp, hv, hI, hJ, k) =
        ap (λ x. (x * 2 ^ z.candidate.sets + I) * 2 ^ z.reference.sets + J)
        (ap₂ (λ (x y : ℕ). x + y)
        (ap₂ (λ (x y : ℕ). z.candidate.states * x + p * y) (ap₂ (λ (x y : ℕ). q * x + y) R.pairs_is (R.before_is u hu)) (R.held_are u hu)) (rank_is u v hu hv))

    pub numbers_are : (x : Var) → Present (task_for sized (named (target_of z))) x → number_of z x ≡ number_for sized (named (target_of z)) x
    numbers_are (step q l p) h = refl
    numbers_are (mark q l i p) h = refl
    numbers_are (path q u p v I J) h =
        let n = z.candidate.states in
        ap (λ k. n * n * z.letters + n * n * z.letters * z.candidate.sets + (1 + k)) (place_is q u p v I J h ∙ sym (path_place sized (named (target_of z)) q u p v I J h))

    pub variables_are : last_variable z ≡ variables_for sized (named (target_of z))
    variables_are =
        let n = z.candidate.states in
        ap (λ k. n * n * z.letters + n * n * z.letters * z.candidate.sets + k)
        (ap (λ k. n * n * k * 2 ^ z.candidate.sets * 2 ^ z.reference.sets) R.pairs_is ∙ sym (path_count sized (named (target_of z))))

-- ---- the rows of a reference

-- a set of numbers below k, with 16 places
members : (k : ℕ) (f : ℕ → Bool) → k ≤ 16 → how_many 16 (has (set_of k f)) ≡ how_many k f
members k f h =
    let e : 16 ≡ k + (16 - k) = omega arith in
    ap (λ j. how_many j (has (set_of k f))) e ∙ total_rest k (16 - k) _ (λ j l g. ap bit (has_past k (set_of k f) j (set_of_lt k f) l)) ∙ how_many_same k _ _ (has_set_of k f)

module _ {a : Automaton} (τ : Target) (v : Valid a) where
  abbrev kept : ℕ → ℕ → Bool
  kept = kept_by (which τ.listing) (view a)

  abbrev entry : ℕ → ℕ
  entry u = cond (ltb u a.states) (set_of a.states (kept u)) 0

  row_in : (u : ℕ) → u < a.states → get_or (kept_sets a τ.listing) u 0 ≡ set_of a.states (kept u)
  row_in u h = each_at 0 16 entry u (omega (arith, v.states_le)) ∙ ap (λ b. cond b (set_of a.states (kept u)) 0) (lt-ltb u a.states h)

  held_in : (u : ℕ) → u < a.states → held (kept_sets a τ.listing) u ≡ how_many a.states (kept u)
  held_in u h = ap (λ s. how_many 16 (has s)) (row_in u h) ∙ members a.states (kept u) v.states_le

  held_out : (u : ℕ) → u < 16 → a.states ≤ u → held (kept_sets a τ.listing) u ≡ 0
  held_out u l h =
      ap (λ s. how_many 16 (has s)) (each_at 0 16 entry u l ∙ ap (λ b. cond b (set_of a.states (kept u)) 0) (le-ltb u a.states h))
      ∙ total_same 16 _ (λ i. 0) (λ i g. ap bit (has_zero i)) ∙ total_const 16 0

  all_pairs : total 16 (held (kept_sets a τ.listing)) ≡ total a.states (λ i. how_many a.states (kept i))
  all_pairs =
      let r = a.states in
      let e : 16 ≡ r + (16 - r) = omega (arith, v.states_le) in
      ap (λ k. total k (held (kept_sets a τ.listing))) e ∙ total_rest r (16 - r) _ (λ j l g. held_out j (omega (arith, v.states_le)) l) ∙ total_same r _ _ held_in

  pub sizes_rowed : Rowed (sizes_of a τ) (task a τ).kept
  sizes_rowed = record {
    sets_are = λ u w hu hw. ap (λ s. has s w) (row_in u hu) ∙ has_set_of a.states (kept u) w hw;
    held_are = held_in;
    before_is = λ u hu. each_at 0 16 (λ u. total u (held (kept_sets a τ.listing))) u (omega (arith, v.states_le)) ∙ total_same u _ _ (λ i h. held_in i (omega arith));
    pairs_is = all_pairs;
  }
