-- COMPLETE: where a candidate agrees with the reference, the constraints are met by what it does, together with what paths there are in the
-- product of the two.
use Rattle.std.specs.Prelude.{◌≡◌, ◌≢◌, ◌↔◌, Bool, true, ◌&&◌, List, [], ℕ, ◌^◌, ◌<◌}
use Rattle.std.proofs.Math.Path.{refl, sym, ap}
use Rattle.std.proofs.Common.{◌∙◌, pow_pos, eq-eqb, eqb-true}
use Rattle.meaning.specs.Automata.{Aut, WellFormed}
use Rattle.meaning.specs.Agreement.{Over, Agree}
use Rattle.meaning.specs.Tests.{any}
use Rattle.meaning.specs.TestLaws.{and_true, and_left, and_right, any_at, any_find}
use Rattle.meaning.specs.BitSet.{has}
use Rattle.meaning.specs.Walk.{run}
use Rattle.meaning.specs.Run.{after, seen}
use Rattle.meaning.specs.ClosedLoop.{CyclesAgree}
use Rattle.meaning.proofs.CycleLemma.{agree→cycles}
use Rattle.meaning.specs.MarkSets.{set_of_has, set_of_same}
use Rattle.encoding.specs.Variables.{Task, Var, step, mark, path, Present}
use Rattle.encoding.specs.Clauses.{marks_on, ◌∪◌}
use Rattle.encoding.specs.WellPosed.{WellPosed, node_present}
use Rattle.encoding.specs.Constraints.{Constraints, Marked}
use Rattle.encoding.specs.History.{Node, history_accept, move, run_move}
use Rattle.encoding.specs.Paths.{Ok, Leads, leads, leads_ok, leads_exact, leads_more}
use Rattle.encoding.specs.Decoding.{table, valuation}

module _ {T : Task} (W : WellPosed T) {δ : ℕ → ℕ → ℕ} {μ : ℕ → ℕ → ℕ → Bool} (F : WellFormed (table T δ μ)) where
  abbrev R : Aut
  R = T.reference

  abbrev C : Aut
  C = table T δ μ

  abbrev origin : Node
  origin = (0, R.start, 0, 0)

  node_ok : (q u : ℕ) → q < T.n → u < R.states → Ok C R (q, u, 0, 0)
  node_ok q u hq hu = (hq, hu, pow_pos T.m, pow_pos R.sets)

  origin_ok : Ok C R (0, T.reference.start, 0, 0)
  origin_ok = node_ok 0 R.start W.some_state W.formed.start_lt

  -- some word leads the product to q and u
  abbrev Reached : ℕ → ℕ → Type 0
  Reached q u = (I J : ℕ) × Leads C R origin (q, u, I, J)

  reached : ℕ → ℕ → Bool
  reached q u = any (2 ^ T.m) λ I. any (2 ^ R.sets) λ J. leads C R origin (q, u, I, J)

  reached_exact : (q u : ℕ) → q < T.n → u < R.states → (reached q u ≡ true) ↔ Reached q u
  unfolding reached
  reached_exact q u hq hu = (
    λ e. (let (I, hI, f) = any_find (2 ^ T.m) _ e in
        let (J, hJ, g) = any_find (2 ^ R.sets) _ f in
        (I, J, (leads_exact C R F W.formed refl origin (q, u, I, J) origin_ok (hq, hu, hI, hJ)).0 g)),
    λ (I, J, t). (let (kq, ku, kI, kJ) = leads_ok C R F W.formed refl origin (q, u, I, J) origin_ok t in
        any_at (2 ^ T.m) _ I kI (any_at (2 ^ R.sets) _ J kJ ((leads_exact C R F W.formed refl origin (q, u, I, J) origin_ok (kq, ku, kI, kJ)).1 t))),
  )

  -- THE PATH VARIABLES: the product reaches q and u, and from there p and v with the histories I and J
  abbrev Linked : (q u p v I J : ℕ) → Type 0
  Linked q u p v I J = Reached q u × Leads C R (q, u, 0, 0) (p, v, I, J)

  pub linked : (q u p v I J : ℕ) → Bool
  linked q u p v I J = reached q u && leads C R (q, u, 0, 0) (p, v, I, J)

  linked_exact : (q u p v I J : ℕ) → Present T (path q u p v I J) → (linked q u p v I J ≡ true) ↔ Linked q u p v I J
  unfolding linked
  linked_exact q u p v I J (hq, hu, hp, hv, hI, hJ, k) =
      let t = leads_exact C R F W.formed refl (q, u, 0, 0) (p, v, I, J) (node_ok q u hq hu) (hp, hv, hI, hJ) in (
        λ e. ((reached_exact q u hq hu).0 (and_left (reached q u) _ e), t.0 (and_right (reached q u) _ e)),
        λ (a, b). and_true ((reached_exact q u hq hu).1 a) (t.1 b),
      )

  -- a path that comes back to q and u by one letter or more is accepted by both or by neither
  same_verdict : Agree (table T δ μ) T.reference → (q u I J : ℕ) → Reached q u → (y : List ℕ) → Over R.letters y → y ≢ []
      → run (move C R) (q, u, 0, 0) y ≡ (q, u, I, J) → T.accept (has I) ≡ R.accept (has J)
  unfolding CyclesAgree
  same_verdict agree q u I J (I₀, J₀, (x, ox, f)) y oy ne e =
      let there = sym (run_move C R 0 R.start 0 0 x) ∙ f in
      let back = sym (run_move C R q u 0 0 y) ∙ e in
      let to-q : after C x ≡ q = ap (λ a. a.0) there in
      let to-u : after R x ≡ u = ap (λ a. a.1) there in
      sym (ap (λ a. C.accept (has a.2)) back) ∙ history_accept F q y ∙ sym (ap (λ p. C.accept (seen C p y)) to-q)
      ∙ agree→cycles (record { formed_A = F; formed_B = W.formed; same_letters = refl }) agree x y ox oy ne
      (rw to-q (ap (λ a. a.0) back)) (rw to-u (ap (λ a. a.1) back))
      ∙ ap (λ v. R.accept (seen R v y)) to-u ∙ sym (history_accept W.formed u y) ∙ ap (λ a. R.accept (has a.3)) back

  module _ (agree : Agree (table T δ μ) T.reference) (val : Var → Bool) (same : (x : Var) → Present T x → val x ≡ valuation δ μ linked x) where
    -- what the true variables say
    step_says : (q l p : ℕ) → Present T (step q l p) → val (step q l p) ≡ true → δ q l ≡ p
    step_says q l p h e = eqb-true _ _ (sym (same (step q l p) h) ∙ e)

    marks_say : (p l t K : ℕ) → Present T (step p l t) → K < 2 ^ T.m → Marked T val p l t K → marks_on C p l ≡ K
    marks_say p l t K (hp, hl, ht) hK k = set_of_same T.m _ _ (λ i h. sym (same (mark p l i t) (hp, hl, h, ht)) ∙ k i h) ∙ set_of_has T.m K hK

    path_says : (q u p v I J : ℕ) → Present T (path q u p v I J) → (val (path q u p v I J) ≡ true) ↔ Linked q u p v I J
    path_says q u p v I J h =
        let t = linked_exact q u p v I J h in
        (λ e. t.0 (sym (same (path q u p v I J) h) ∙ e), λ k. same (path q u p v I J) h ∙ t.1 k)

    -- a path, with one transition more
    further : (q p t u v l I J K : ℕ) → Present T (step p l t) → K < 2 ^ T.m → val (step p l t) ≡ true → Marked T val p l t K
        → Leads C R (q, u, 0, 0) (p, v, I, J)
        → (y : List ℕ) × Over R.letters y × (y ≢ []) × (run (move C R) (q, u, 0, 0) y ≡ (t, R.step v l, I ∪ K, J ∪ marks_on R v l))
    further q p t u v l I J K h hK e k a =
        let (y, o, ne, f) = leads_more C R (q, u, 0, 0) (p, v, I, J) l h.1 a in
        (y, o, ne, f ∙ (λ i. (step_says p l t h e i, R.step v l, I ∪ marks_say p l t K h hK k i, J ∪ marks_on R v l)))

    pub constraints_met : Constraints T val
    constraints_met = record {
      total = λ q l hq hl. (let h = F.step_lt q l hq hl in (δ q l, h, same (step q l (δ q l)) (hq, hl, h) ∙ eq-eqb (δ q l) _ refl));
      initial = there 0 R.start W.some_state W.formed.start_lt (0, 0, ([], tt, refl));
      successor = λ q p u l h₁ h₂ e₁ e₂.
          let (I, J, a) = ((path_says q u q u 0 0 h₁).0 e₁).0 in
          let w = R.step u l in
          let (y, o, ne, f) = leads_more C R origin (q, u, I, J) l h₂.1 a in
          there p w h₂.2 (W.formed.step_lt u l h₁.1 h₂.1) (I ∪ marks_on C q l, J ∪ marks_on R u l, (y, o, f ∙ (λ i. (step_says q l p h₂ e₂ i, w, I ∪ marks_on C q l, J ∪ marks_on R u l))));
      extension = λ q p t u v l I J K h₁ h₂ hK h₃ e₁ e₂ k.
          let (a, b) = (path_says q u p v I J h₁).0 e₁ in
          let (y, o, ne, e) = further q p t u v l I J K h₂ hK e₂ k b in
          (path_says q u t (R.step v l) (I ∪ K) (J ∪ marks_on R v l) h₃).1 (a, (y, o, e));
      closure = λ q p v l I J K h₁ h₂ hK e₁ e₂ k.
          let w = R.step v l in
          let (a, b) = (path_says q w p v I J h₁).0 e₁ in
          let (y, o, ne, e) = further q p q w v l I J K h₂ hK e₂ k b in
          same_verdict agree q w (I ∪ K) (J ∪ marks_on R v l) a y o ne e;
    }
      where
        there : (q u : ℕ) → q < T.n → u < R.states → Reached q u → val (path q u q u 0 0) ≡ true
        there q u hq hu a = (path_says q u q u 0 0 (node_present W q u hq hu)).1 (a, ([], tt, refl))
