-- How a position is taken apart.
use mathlib.Core.Path.{◌≡◌, refl, sym, ap, ap₂, ◌∙◌, subst}
use mathlib.Core.Bool.{Bool, true, false, ◌&&◌}
use mathlib.Core.List.{List}
use Prim.Native.Nat.{ℕ, ◌+◌, ◌*◌, ◌/◌, ◌%◌, ◌^◌, ◌<◌}
use native.Mathlib.Nat.{mod-lt}
use native.Mathlib.Omega.{arith}
use lib.ListN.{get_or}
use Rattle.std.specs.Prelude.{Some, None}
use lib.IntN.{ℤ}
use lib.Pow.{pow_pos}
use Rattle.encoding.specs.Clauses.{◌∪◌, only}
use Rattle.encoding.specs.Numbering.{split}
use Rattle.decimal.specs.Wrote.{Wrote}
use Rattle.clause_sizes.specs.declared.Sizes.{Sizes}
use Rattle.clause_sizes.specs.Sizes.{Fitting}
use Rattle.clause_sizes.specs.Numbers.{kept_among}
use Rattle.clause_variables.specs.Kept.{KeptIfAny}
use Rattle.clause_indices.specs.declared.Indices.{Indices}
use Rattle.clause_list.specs.declared.digits.Marking.{Marking}
use Rattle.clause_list.specs.declared.digits.Transition.{Transition}
use Rattle.clause_indices.specs.Indices.{Within, EntryIfAny, premise_of, successors, extension_indices}
use Rattle.clause_list.specs.Groups.{Successive, successor_of, extension_of}
use Rattle.clause_list.specs.Tables.{StepsWithin, Tables}
use Rattle.clause_list.specs.Digits.{MarkingOf, TransitionOf, closure_indices}
use Rattle.clause_list.specs.Position.{Stands, successor_at, extension_at, shared_at, extensions_at, closure_at, disagree}

module _ (z : Sizes) where
  -- the indices of groups 3 and 4, from what is left of a position after its sets of marks and its transition
  abbrev pub extended : (rest v l i j k : ℕ) → Indices
  extended rest v l i j k = record {
    q = record { 0 = rest / z.reference.states / z.candidate.states / z.candidate.states };
    p = record { 0 = rest / z.reference.states / z.candidate.states % z.candidate.states };
    t = record { 0 = rest / z.reference.states % z.candidate.states };
    u = record { 0 = rest % z.reference.states };
    v = record { 0 = v };
    l = l;
    i = i;
    j = j;
    k = k;
  }

-- a row of the reference
pub kept_is : {z : Sizes} {u v : ℕ} {b : Bool} → Fitting z → u < z.reference.states → KeptIfAny z u v b → b ≡ kept_among z u v
kept_is f h k = k.there (omega (arith, f.r_le))

-- a table's entry
pub entry_is : {table : List ℕ} {u l r : ℕ} → (u < 16) × (l < 16) → EntryIfAny table u l r → r ≡ get_or table (u * 16 + l) 0
entry_is (hu, hl) e = e.there hu hl

module _ {z : Sizes} where
  pub own_some : Fitting z → 0 < z.candidate.subsets
  own_some f = omega (arith, f.candidate_subsets, pow_pos z.candidate.sets)

  pub transition_lt : {x : ℕ} {a : Transition} → Fitting z → TransitionOf z x a → (a.v.0 < 16) × (a.l < 16)
  transition_lt {x} f e =
      (omega (arith, e.v_is, mod-lt (x / z.letters) f.r_some, f.r_le), omega (arith, e.l_is, mod-lt x f.letters_some, f.letters_le))

  pub step_lt : {x w : ℕ} {a : Transition} → Fitting z → (destinations : List ℕ) → StepsWithin z destinations → TransitionOf z x a
      → w ≡ get_or destinations (a.v.0 * 16 + a.l) 0 → w < 16
  step_lt {x} f destinations steps e d =
      let v : _ < z.reference.states = subst (λ k. k < z.reference.states) (sym e.v_is) (mod-lt (x / z.letters) f.r_some) in
      let l : _ < z.letters = subst (λ k. k < z.letters) (sym e.l_is) (mod-lt x f.letters_some) in
      omega (arith, d, steps _ _ v l, f.r_le)

  pub extension_is : {a : Marking} {b : Transition} (x : ℕ) → MarkingOf z x a → TransitionOf z a.rest b
      → extended z b.rest b.v.0 b.l a.i a.j a.k ≡ extension_indices z x
  extension_is x s e t =
      extended z ((e.rest_is ∙ ap (λ y. y / z.letters / z.reference.states) s.rest_is) t)
      ((e.v_is ∙ ap (λ y. y / z.letters % z.reference.states) s.rest_is) t)
      ((e.l_is ∙ ap (λ y. y % z.letters) s.rest_is) t) (s.i_is t) (s.j_is t) (s.k_is t)

  -- ---- group 2

  pub successive : {x w : ℕ} {a : Transition} → Fitting z → (destinations : List ℕ) → StepsWithin z destinations → x < successors z → TransitionOf z x a
      → w ≡ get_or destinations (a.v.0 * 16 + a.l) 0
      → Successive z (a.rest / z.candidate.states) (a.rest % z.candidate.states) a.v.0 a.l w
  successive {x} f destinations steps h e d =
      let n = z.candidate.states in
      let l = split x (n * n * z.reference.states) z.letters h in
      let u = split (x / z.letters) (n * n) z.reference.states l.0 in
      let p = split (x / z.letters / z.reference.states) n n u.0 in
      let u_lt = subst (λ k. k < z.reference.states) (sym e.v_is) u.1 in
      let l_lt = subst (λ k. k < z.letters) (sym e.l_is) l.1 in
      record {
        q_lt = rw e.rest_is p.0;
        p_lt = rw e.rest_is p.1;
        u_lt = u_lt;
        l_lt = l_lt;
        w_lt = rw d (steps _ _ u_lt l_lt);
      }

  pub successor_written : {x w : ℕ} {a : Transition} {d e : List ℤ} {r : ℕ} (destinations : List ℕ) → TransitionOf z x a → w ≡ get_or destinations (a.v.0 * 16 + a.l) 0
      → Wrote d 0 (successor_of z (a.rest / z.candidate.states) (a.rest % z.candidate.states) a.v.0 a.l w) e r
      → Wrote d 0 (successor_at z destinations x) e r
  successor_written {d} {e} {r} destinations t q =
      subst (λ c. Wrote d 0 c e r) (rw (q, t.v_is, t.l_is, t.rest_is))

  -- ---- group 3

  pub indices_lt : {x : Indices} → Fitting z → Within z x → (x.v.0 < 16) × (x.l < 16)
  indices_lt f w = (omega (arith, w.v_lt, f.r_le), omega (arith, w.l_lt, f.letters_le))

  module _ {destinations marks : List ℕ} (tables : Tables z destinations marks) {x : Indices} {w : ℕ} (h : Within z x) where
    pub step_within : w ≡ get_or destinations (x.v.0 * 16 + x.l) 0 → w < z.reference.states
    step_within e = rw e (tables.step_lt _ _ h.v_lt h.l_lt)

    pub marks_within : w ≡ get_or marks (x.v.0 * 16 + x.l) 0 → w < 2 ^ z.reference.sets
    marks_within e = rw e (tables.marks_lt _ _ h.v_lt h.l_lt)

module _ (z : Sizes) (destinations marks : List ℕ) where
  pub extension_written : {w f : ℕ} {i : Indices} {d e : List ℤ} {r : ℕ} (x : ℕ) → i ≡ extension_indices z x
      → w ≡ get_or destinations (i.v.0 * 16 + i.l) 0 → f ≡ get_or marks (i.v.0 * 16 + i.l) 0
      → Wrote d 0 (extension_of z i w f) e r → Wrote d 0 (extension_at z destinations marks x) e r
  extension_written {i} {d} {e} {r} x q p s =
      subst (λ c. Wrote d 0 c e r)
      (ap₂ (extension_of z i) p s ∙ ap (λ i. extension_of z i (get_or destinations (i.v.0 * 16 + i.l) 0) (get_or marks (i.v.0 * 16 + i.l) 0)) q)

  shared_is : {w : ℕ} {i : Indices} {b c : Bool} (x : ℕ) → i ≡ extension_indices z x → w ≡ get_or destinations (i.v.0 * 16 + i.l) 0
      → b ≡ kept_among z i.u.0 i.v.0 → c ≡ kept_among z i.u.0 w → (b && c) ≡ shared_at z destinations x
  shared_is {i} x q p k l =
      ap₂ ◌&&◌ k (l ∙ ap (kept_among z i.u.0) p)
      ∙ ap (λ (i : Indices). kept_among z i.u.0 i.v.0 && kept_among z i.u.0 (get_or destinations (i.v.0 * 16 + i.l) 0)) q

  pub extension_none : {w : ℕ} {i : Indices} {b c : Bool} {d : List ℤ} (x : ℕ) → i ≡ extension_indices z x → w ≡ get_or destinations (i.v.0 * 16 + i.l) 0
      → b ≡ kept_among z i.u.0 i.v.0 → c ≡ kept_among z i.u.0 w → (b && c) ≡ false → Stands d (extensions_at z destinations marks x) d None
  unfolding only
  extension_none x q p k l t = (ap (λ b. only b (extension_at z destinations marks x)) (sym (shared_is x q p k l) ∙ t), refl)

  pub extension_stands : {w f : ℕ} {i : Indices} {b c : Bool} {d e : List ℤ} {r : ℕ} (x : ℕ) → i ≡ extension_indices z x
      → w ≡ get_or destinations (i.v.0 * 16 + i.l) 0 → f ≡ get_or marks (i.v.0 * 16 + i.l) 0
      → b ≡ kept_among z i.u.0 i.v.0 → c ≡ kept_among z i.u.0 w → (b && c) ≡ true
      → Wrote d 0 (extension_of z i w f) e r → Stands d (extensions_at z destinations marks x) e (Some r)
  unfolding only
  extension_stands x q p s k l t h =
      let w = extension_written x q p s h in
      record { clause = extension_at z destinations marks x; alone = ap (λ b. only b (extension_at z destinations marks x)) (sym (shared_is x q p k l) ∙ t); wrote = w; some = omega (arith, w.next) }

  -- ---- group 4

  module _ (x : ℕ) {f : ℕ} {i : Indices} {b : Bool} (q : i ≡ closure_indices z destinations x) (p : f ≡ get_or marks (i.v.0 * 16 + i.l) 0)
      (k : b ≡ kept_among z i.u.0 i.v.0) where
    closure_test : only (b && disagree z (i.i ∪ i.k) (i.j ∪ f)) (premise_of z i) ≡ closure_at z destinations marks x
    closure_test =
        ap₂ (λ b f. only (b && disagree z (i.i ∪ i.k) (i.j ∪ f)) (premise_of z i)) k p
        ∙ ap (λ (i : Indices). only (kept_among z i.u.0 i.v.0 && disagree z (i.i ∪ i.k) (i.j ∪ get_or marks (i.v.0 * 16 + i.l) 0)) (premise_of z i)) q

    pub closure_none : {d : List ℤ} → (b && disagree z (i.i ∪ i.k) (i.j ∪ f)) ≡ false → Stands d (closure_at z destinations marks x) d None
    unfolding only
    closure_none t = (sym closure_test ∙ ap (λ b. only b (premise_of z i)) t, refl)

    pub closure_written : {d e : List ℤ} {r : ℕ} → (b && disagree z (i.i ∪ i.k) (i.j ∪ f)) ≡ true → Wrote d 0 (premise_of z i) e r
        → Stands d (closure_at z destinations marks x) e (Some r)
    unfolding only
    closure_written t w = record { clause = premise_of z i; alone = sym closure_test ∙ ap (λ b. only b (premise_of z i)) t; wrote = w; some = omega (arith, w.next) }
