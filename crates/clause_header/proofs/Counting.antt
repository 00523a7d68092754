-- The counts of the header.
use mathlib.Core.Path.{◌≡◌, refl, sym, ap, ap₂, ◌∙◌}
use mathlib.Core.Bool.{true, false}
use mathlib.Core.List.{List}
use Prim.Native.Nat.{ℕ, ◌+◌, ◌-◌, ◌*◌, ◌/◌, ◌%◌, ◌^◌, ◌≤◌, ◌<◌}
use native.Mathlib.Nat.{mul-le-mul}
use native.Mathlib.Numerals.{add-one}
use native.Mathlib.Omega.{arith}
use lib.ListN.{length}
use lib.Pow.{pow_pos}
use Rattle.meaning.specs.BitSet.{bit, has}
use Rattle.automaton.specs.declared.Automaton.{Automaton}
use Rattle.meaning.specs.Counting.{total}
use Rattle.meaning.specs.Totals.{total_total}
use Rattle.encoding.specs.Clauses.{◌∪◌}
use Rattle.encoding.specs.NamedFile.{named_length}
use Rattle.encoding.specs.Numbering.{split}
use Rattle.encoding.specs.Named.{number_for, file_for}
use Rattle.clause_sizes.specs.Targets.{named, file}
use Rattle.clause_sizes.specs.declared.Sizes.{Sizes}
use Rattle.clause_sizes.specs.Sizes.{Fitting, target_of}
use Rattle.clause_sizes.specs.Limits.{candidate_subsets_le, reference_subsets_le}
use Rattle.clause_sizes.specs.Measured.{Measured}
use Rattle.clause_indices.specs.declared.extent.Extent.{Extent}
use Rattle.clause_indices.specs.Indices.{ExtentOf, EntryIfAny}
use Rattle.clause_list.specs.Tables.{StepsWithin, tabled}
use Rattle.clause_list.specs.Measured.{measured_tables, measured_view}
use Rattle.clause_header.specs.SharingCount.{sharing_count, sharing_is}
use Rattle.clause_header.specs.ClosureCount.{yes_pairs, pairs_for, closures_from, closures_at, closure_count}
use Rattle.clause_header.proofs.ClosureLaws.{closure_length}

-- ---- a sum in a loop

pub total_none : (h : ℕ → ℕ) → 0 ≡ total 0 h
unfolding total
total_none h = refl

pub total_more : (i : ℕ) (h : ℕ → ℕ) {s t : ℕ} → s ≡ total i h → t ≡ h i → s + t ≡ total (i + 1) h
unfolding total
total_more i h e q = rw (add-one i) (ap₂ ◌+◌ e q)

-- ---- the pairs I, K

-- 1 where the candidate's acceptance says yes for the pair that stands at x
abbrev pub yes_at : Sizes → ℕ → ℕ
yes_at z x = bit (has z.candidate.acceptance (x / z.candidate.subsets ∪ x % z.candidate.subsets))

module _ {z : Sizes} (f : Fitting z) where
  pub pairs_le : z.candidate.subsets * z.candidate.subsets ≤ 256
  pairs_le = mul-le-mul (candidate_subsets_le f) (candidate_subsets_le f)

  pub own_some : 0 < z.candidate.subsets
  own_some = omega (arith, f.candidate_subsets, pow_pos z.candidate.sets)

  -- the reference says yes, so the candidate is to say no
  pub pairs_no : (accepted u : ℕ) → has z.reference.acceptance u ≡ true → z.candidate.subsets * z.candidate.subsets - accepted ≡ pairs_for z accepted u
  pairs_no accepted u e = rw (f.candidate_subsets, e)

  pub pairs_yes : (accepted u : ℕ) → has z.reference.acceptance u ≡ false → accepted ≡ pairs_for z accepted u
  pairs_yes accepted u e = rw e

  -- all pairs in a row
  pub in_a_row : {x c : ℕ} → x ≡ z.candidate.subsets * z.candidate.subsets → c ≡ total x (yes_at z) → c ≡ yes_pairs z
  in_a_row i e =
      e ∙ ap (λ n. total n (yes_at z)) i
      ∙ ap (λ M. total (M * M) (λ x. bit (has z.candidate.acceptance (x / M ∪ x % M)))) f.candidate_subsets
      ∙ sym (total_total (2 ^ z.candidate.sets) (2 ^ z.candidate.sets) (λ I K. bit (has z.candidate.acceptance (I ∪ K))))

  -- ---- the transitions

  pub transitions_le : z.reference.states * z.letters ≤ 256
  transitions_le = mul-le-mul f.r_le f.letters_le

  pub transition_place : (y : ℕ) → y < z.reference.states * z.letters → (y / z.letters < 16) × (y % z.letters < 16)
  transition_place y h =
      let s = split y z.reference.states z.letters h in
      (omega (arith, s.0, f.r_le), omega (arith, s.1, f.letters_le))

  module _ (destinations : List ℕ) (y : ℕ) (h : y < z.reference.states * z.letters) where
    pub step_lt : {w : ℕ} → StepsWithin z destinations → EntryIfAny destinations (y / z.letters) (y % z.letters) w → w < 16
    step_lt within e =
        let (hv, hl) = transition_place y h in
        let s = split y z.reference.states z.letters h in
        omega (arith, e.there hv hl, within (y / z.letters) (y % z.letters) s.0 s.1, f.r_le)

    pub transition_counted : (marks : List ℕ) (accepted : ℕ) {w g k : ℕ} → EntryIfAny destinations (y / z.letters) (y % z.letters) w
        → EntryIfAny marks (y / z.letters) (y % z.letters) g → k ≡ closures_from z accepted (y / z.letters) w g → k ≡ closures_at z destinations marks accepted y
    transition_counted marks accepted d e k =
        let (hv, hl) = transition_place y h in
        k ∙ ap₂ (closures_from z accepted (y / z.letters)) (d.there hv hl) (e.there hv hl)

  -- ---- the states u beside them

  pub squares_le : z.reference.states * z.reference.states ≤ 256
  squares_le = mul-le-mul f.r_le f.r_le

  pub triples_le : z.reference.states * z.reference.states * z.letters ≤ 4096
  triples_le = mul-le-mul squares_le f.letters_le

  pub triple_place : (y : ℕ) → y < z.reference.states * z.reference.states * z.letters
      → (y / z.letters / z.reference.states < 16) × (y / z.letters % z.reference.states < 16) × (y % z.letters < 16)
  triple_place y h =
      let s = split y (z.reference.states * z.reference.states) z.letters h in
      let t = split (y / z.letters) z.reference.states z.reference.states s.0 in
      (omega (arith, t.0, f.r_le), omega (arith, t.1, f.r_le), omega (arith, s.1, f.letters_le))

  -- ---- C

  pub candidates_le : z.candidate.states * z.candidate.states ≤ 64
  candidates_le = mul-le-mul f.n_le f.n_le

  pub three_le : z.candidate.states * z.candidate.states * z.candidate.states ≤ 512
  three_le = mul-le-mul candidates_le f.n_le

  pub two_sets_le : z.candidate.subsets * z.reference.subsets ≤ 256
  two_sets_le = mul-le-mul (candidate_subsets_le f) (reference_subsets_le f)

  pub markings_le : z.candidate.subsets * z.reference.subsets * z.candidate.subsets ≤ 4096
  markings_le = mul-le-mul two_sets_le (candidate_subsets_le f)

  pub third_factor_le : z.candidate.states * z.candidate.states * z.candidate.states * (z.candidate.subsets * z.reference.subsets * z.candidate.subsets) ≤ 2097152
  third_factor_le = mul-le-mul three_le markings_le

  pub third_le : {k : ℕ} → k ≤ 4096
      → z.candidate.states * z.candidate.states * z.candidate.states * (z.candidate.subsets * z.reference.subsets * z.candidate.subsets) * k ≤ 8589934592
  third_le h = mul-le-mul third_factor_le h

  pub fourth_le : {c : ℕ} → c ≤ 1048576 → z.candidate.states * z.candidate.states * c ≤ 67108864
  fourth_le h = mul-le-mul candidates_le h

  -- the three sets of marks
  pub markings_are : z.candidate.subsets * z.reference.subsets * z.candidate.subsets ≡ 2 ^ z.candidate.sets * 2 ^ z.reference.sets * 2 ^ z.candidate.sets
  markings_are = ap₂ (λ x y. x * y * x) f.candidate_subsets f.reference_subsets

module _ {a : Automaton} {z : Sizes} (w : Measured a z) where
  pub clauses_are : {g : Extent} {k c : ℕ} → ExtentOf z g → k ≡ sharing_count z a.destinations → c ≡ closure_count z a.destinations a.marks
      → g.first + g.second
      + z.candidate.states * z.candidate.states * z.candidate.states * (z.candidate.subsets * z.reference.subsets * z.candidate.subsets) * k
      + z.candidate.states * z.candidate.states * c
      ≡ length (file a (target_of z))
  clauses_are {k} {c} x e d =
      let n = z.candidate.states in
      let R = tabled z a.start a.destinations a.marks in
      let t = named (target_of z) in
      let tables = measured_tables w in
      omega (
        arith,
        x.first_is,
        x.second_is,
        named_length R t,
        ap₂ (λ y j. n * n * n * y * j) (markings_are tables.fits) (e ∙ sym (sharing_is z a.start a.destinations a.marks tables)),
        closure_length z a.start a.destinations a.marks tables (number_for R t),
        ap (λ j. n * n * j) d,
      )
      ∙ ap (λ A. length (file_for A t)) (measured_view w)
