-- Warshall's closure: rows of reached states, by one transition more, and by way of one state more. In the end they have all.
use mathlib.Core.Path.{◌≡◌, refl, sym, ap, ap₂, ◌∙◌, subst}
use mathlib.Core.Logic.{◌⊎◌, inl, inr}
use mathlib.Core.Bool.{Bool, true, ◌&&◌, ◌||◌}
use mathlib.Core.List.{List, [], ◌∷◌}
use Prim.Native.Nat.{ℕ, ◌+◌, ◌*◌, ◌/◌, ◌%◌, ◌≤◌, ◌<◌}
use native.Mathlib.Decide.{ℕ_discrete}
use native.Mathlib.Omega.{arith}
use borrow.Author.Tests.{lt-ltb, ltb-true, eqb-true, eq-eqb}
use lib.Dec.{ltb, eqb}
use lib.ListN.{length, get_or}
use Rattle.meaning.specs.Automata.{Aut, WellFormed}
use Rattle.meaning.specs.Agreement.{Over}
use Rattle.meaning.specs.BitSet.{has}
use Rattle.meaning.specs.Walk.{run}
use Rattle.meaning.specs.TestLaws.{or_left, or_right, or_cases, and_true, and_left, and_right, same_truth}
use Rattle.meaning.specs.Components.{Leads, reaches}
use Rattle.meaning.proofs.ComponentLaws.{leads_then, reaches_exact}
use Rattle.bits.specs.Sets.{single}
use Rattle.reach.specs.Closing.{in_row, Closed, Reached, Through}
use Rattle.reach.proofs.Stores.{Grown, has_alone, kept, added, gained}

-- v is in row u, or by way of k
abbrev By : List ℕ → ℕ → ℕ → ℕ → Type 0
By rows k u v = in_row rows u v ⊎ (in_row rows u k × in_row rows k v)

-- ---- row k is added to the rows that have k
module _ {k : ℕ} {old : List ℕ} where
  pub through_none : length old ≡ 16 → Through k old 0 old
  through_none s = record { size = s; done = λ u v h. absurd (omega arith); left = λ u h. refl }

  pub through_more : {u : ℕ} {rows new : List ℕ} {test : Bool} → Through k old u rows → Grown rows u (get_or old k 0) test new
      → test ≡ has (get_or rows u 0) k → Through k old (u + 1) new
  through_more {u} {rows} {new} t g e = record { size = g.size; done = λ x v h. done x v h (ℕ_discrete x u); left = λ x h. g.rest x (omega arith) ∙ t.left x (omega arith) }
    where
      done : (x v : ℕ) → x < u + 1 → Dec (x ≡ u) → has (get_or new x 0) v ≡ (has (get_or old x 0) v || (has (get_or old x 0) k && has (get_or old k 0) v))
      done x v h (yes q) = subst (λ x. has (get_or new x 0) v ≡ (has (get_or old x 0) v || (has (get_or old x 0) k && has (get_or old k 0) v))) (sym q)
          (g.here v ∙ ap (λ b. has (get_or rows u 0) v || (b && has (get_or old k 0) v)) e ∙ ap (λ s. has s v || (has s k && has (get_or old k 0) v)) (t.left u (omega arith)))
      done x v h (no q) = ap (λ s. has s v) (g.rest x q) ∙ t.done x v (omega arith)

module _ {A : Aut} where
  -- ---- by one transition more
  pub steps_more : {i : ℕ} {rows new : List ℕ} {more : ℕ} {test : Bool} → A.states ≤ 16 → A.letters ≤ 16 → WellFormed A
      → Reached A i 0 rows → Grown rows (i / 16) more test new → test ≡ ltb (i % 16) A.letters
      → more ≡ single (A.step (i / 16) (i % 16)) → Reached A (i + 1) 0 new
  steps_more {i} {rows} {new} {more} {test} small few F R g t m = record {
    size = g.size;
    only = λ x v hx e. only x v hx (gained g x v e);
    itself = λ x hx. kept g x x (R.itself x hx);
    steps = λ x l hx hl h. steps x l hx hl h (ℕ_discrete (x * 16 + l) i);
    via = λ u j v hu h. absurd (omega arith);
  }
    where
      has_more : (x l : ℕ) → x < A.states → l < A.letters → x ≡ i / 16 → l ≡ i % 16 → (v : ℕ) → has more v ≡ eqb v (A.step x l)
      has_more x l hx hl ex el v =
          let e : more ≡ single (A.step x l) = m ∙ ap₂ (λ x l. single (A.step x l)) (sym ex) (sym el) in
          ap (λ s. has s v) e ∙ has_alone (A.step x l) v (omega (arith, F.step_lt x l hx hl))

      only : (x v : ℕ) → x < A.states → in_row rows x v ⊎ ((x ≡ i / 16) × (test ≡ true) × (has more v ≡ true)) → Leads A x v
      only x v hx (inl e) = R.only x v hx e
      only x v hx (inr (ex, et, e)) =
          let hl : i % 16 < A.letters = ltb-true _ _ (sym t ∙ et) in
          (i % 16 ∷ [], (hl, tt), sym (eqb-true v (A.step x (i % 16)) (sym (has_more x (i % 16) hx hl ex refl v) ∙ e)))

      steps : (x l : ℕ) → x < A.states → l < A.letters → x * 16 + l < i + 1 → Dec (x * 16 + l ≡ i) → in_row new x (A.step x l)
      steps x l hx hl h (yes e) =
          let ex : x ≡ i / 16 = omega arith in
          let el : l ≡ i % 16 = omega arith in
          let hi : i % 16 < A.letters = omega arith in
          subst (λ u. in_row new u (A.step x l)) (sym ex)
          (added g (A.step x l) (t ∙ lt-ltb _ _ hi) (has_more x l hx hl ex el (A.step x l) ∙ eq-eqb (A.step x l) (A.step x l) refl))
      steps x l hx hl h (no e) = kept g x (A.step x l) (R.steps x l hx hl (omega arith))

  -- ---- by way of one state more
  pub via_more : {i k : ℕ} {old rows : List ℕ} → A.states ≤ 16 → k < A.states → Reached A i k old → Through k old 16 rows → Reached A i (k + 1) rows
  via_more {i} {k} {old} {rows} small hk R t = record {
    size = t.size;
    only = λ u v hu e. only u v hu (parts u v (omega arith) e);
    itself = λ u hu. more u u (omega arith) (R.itself u hu);
    steps = λ u l hu hl h. more u (A.step u l) (omega arith) (R.steps u l hu hl h);
    via = λ u j v hu h e f. via u j v hu h (parts u j (omega arith) e) (parts j v (omega arith) f) (ℕ_discrete j k);
  }
    where
      more : (u v : ℕ) → u < 16 → in_row old u v → in_row rows u v
      more u v h e = t.done u v h ∙ or_left (has (get_or old u 0) k && has (get_or old k 0) v) e

      both : (u v : ℕ) → u < 16 → in_row old u k → in_row old k v → in_row rows u v
      both u v h e f = t.done u v h ∙ or_right (has (get_or old u 0) v) (and_true e f)

      parts : (u v : ℕ) → u < 16 → in_row rows u v → By old k u v
      parts u v h e = go (or_cases (has (get_or old u 0) v) (has (get_or old u 0) k && has (get_or old k 0) v) (sym (t.done u v h) ∙ e))
        where
          go : in_row old u v ⊎ ((has (get_or old u 0) k && has (get_or old k 0) v) ≡ true) → By old k u v
          go (inl f) = inl f
          go (inr f) = inr (and_left (has (get_or old u 0) k) (has (get_or old k 0) v) f, and_right (has (get_or old u 0) k) (has (get_or old k 0) v) f)

      only : (u v : ℕ) → u < A.states → By old k u v → Leads A u v
      only u v hu (inl e) = R.only u v hu e
      only u v hu (inr (e, f)) = leads_then A u k v (R.only u k hu e) (R.only k v hk f)

      to_k : (u j : ℕ) → By old k u j → j ≡ k → in_row old u k
      to_k u j (inl e) q = subst (λ j. in_row old u j) q e
      to_k u j (inr (e, f)) q = e

      from_k : (j v : ℕ) → By old k j v → j ≡ k → in_row old k v
      from_k j v (inl e) q = subst (λ j. in_row old j v) q e
      from_k j v (inr (e, f)) q = f

      below : (u j v : ℕ) → u < A.states → j < k → By old k u j → By old k j v → in_row rows u v
      below u j v hu h (inl e) (inl f) = more u v (omega arith) (R.via u j v hu h e f)
      below u j v hu h (inl e) (inr (f, g)) = both u v (omega arith) (R.via u j k hu h e f) g
      below u j v hu h (inr (e, d)) (inl f) = both u v (omega arith) e (R.via k j v hk h d f)
      below u j v hu h (inr (e, d)) (inr (f, g)) = both u v (omega arith) e g

      via : (u j v : ℕ) → u < A.states → j < k + 1 → By old k u j → By old k j v → Dec (j ≡ k) → in_row rows u v
      via u j v hu h e f (yes q) = both u v (omega arith) (to_k u j e q) (from_k j v f q)
      via u j v hu h e f (no q) = below u j v hu (omega arith) e f

  -- ---- in the end
  module _ {rows : List ℕ} (F : WellFormed A) (small : A.states ≤ 16) (few : A.letters ≤ 16) (R : Reached A 256 A.states rows) where
    along : (u : ℕ) (w : List ℕ) → u < A.states → Over A.letters w → in_row rows u (run A.step u w)
    along u [] hu o = R.itself u hu
    along u (l ∷ w) hu (hl, o) =
        let hd : A.step u l < A.states = F.step_lt u l hu hl in
        R.via u (A.step u l) (run A.step (A.step u l) w) hu hd (R.steps u l hu hl (omega arith)) (along (A.step u l) w hd o)

    pub all_reached : (u v : ℕ) → u < A.states → has (get_or rows u 0) v ≡ reaches A u v
    all_reached u v hu = same_truth _ _ (λ e. (reaches_exact A F u v hu).1 (R.only u v hu e))
        (λ e. let (w, o, q) = (reaches_exact A F u v hu).0 e in subst (λ x. in_row rows u x) q (along u w hu o))

-- ---- the turns of the closure
pub closed_none : (states : ℕ) {old : List ℕ} → length old ≡ 16 → Closed states old 0 old
closed_none states s = record { size = s; reached = λ A e R. R }

pub closed_more : {states k : ℕ} {old rows new : List ℕ} → states ≤ 16 → k < states → Closed states old k rows → Through k rows 16 new → Closed states old (k + 1) new
closed_more small h C t = record { size = t.size; reached = λ A e R. via_more (omega arith) (omega arith) (C.reached A e R) t }
