-- On a lasso word whose loop leads A back to where the prefix led it, A's answer is its `verdict` on prefix and loop.
use Rattle.std.specs.Prelude.{◌≡◌, ◌≢◌, ◌⊎◌, ◌↔◌, List, [], Bool, true, false, ◌&&◌, ℕ, zero, suc, ◌+◌, ◌-◌, ◌*◌, ◌/◌, ◌%◌, ◌≤◌, ◌<◌, eqb, length}
use Rattle.std.proofs.Common.{sym, ap, ◌∙◌, subst, inl, inr, true≢false, zero-mul, suc-mul, mul-one, mod-lt, div-add-mod', mul-le-mul_left, arith, eq-eqb, eqb-true}
use Rattle.meaning.specs.TestLaws.{and_true, and_left, and_right, truth}
use Rattle.meaning.specs.Walk.{run, meets}
use Rattle.meaning.specs.Automata.{Aut, WellFormed, Word, Inf, Accepts, state}
use Rattle.meaning.specs.Agreement.{Over, lasso}
use Rattle.meaning.specs.LassoWord.{IsLasso, lasso_reads, lasso_over, length_pos}
use Rattle.meaning.specs.Run.{after, seen, of_kind, state_run, meets_at, at_meets}
use Rattle.meaning.specs.Recurrence.{Recurrent, accepts_recurrent}
use Rattle.meaning.specs.ClosedLoop.{Closed, verdict}

module _ (A : Aut) (w : Word) {x y : List ℕ} (L : IsLasso x y w) (back : Closed A x y) (some : y ≢ []) where
  at_loop : (k : ℕ) → state A w (length x + k * length y) ≡ after A x
  at_loop zero =
      let e : length x + 0 * length y ≡ 0 + length x = omega (arith, zero-mul (length y)) in
      ap (state A w) e ∙ state_run A w 0 x L.prefix
  at_loop (suc k) =
      let e : length x + suc k * length y ≡ length x + k * length y + length y = omega (arith, suc-mul k (length y)) in
      ap (state A w) e ∙ state_run A w (length x + k * length y) y (L.loop k) ∙ ap (λ q. run A.step q y) (at_loop k) ∙ back

  module _ (kind : ℕ → ℕ → Bool) where
    -- what is met along the loop is met infinitely often
    loop_infinitely : meets A.step kind (after A x) y ≡ true → (n : ℕ) → (j : ℕ) × (n ≤ j) × (of_kind A w kind j ≡ true)
    loop_infinitely s n =
        let t = meets_at A w kind (length x + n * length y) y (L.loop n) (rw (at_loop n) s) in
        (t.0, omega (arith, mul-le-mul_left n (length_pos y some), mul-one n), t.2)

    -- what is not is not met after x
    loop_finitely : meets A.step kind (after A x) y ≡ false → (j : ℕ) → length x ≤ j → of_kind A w kind j ≡ false
    loop_finitely s j h = go (truth (of_kind A w kind j))
      where
        go : (of_kind A w kind j ≡ true) ⊎ (of_kind A w kind j ≡ false) → of_kind A w kind j ≡ false
        go (inr e) = e
        go (inl e) =
            let k : ℕ = (j - length x) / length y in
            let m : ℕ = (j - length x) % length y in
            let d : j ≡ length x + k * length y + m = omega (arith, div-add-mod' (j - length x) (length y)) in
            let t : meets A.step kind (after A x) y ≡ true = rw (← at_loop k)
            (at_meets A w kind (length x + k * length y) m y (L.loop k) (mod-lt (j - length x) (length_pos y some)) (subst (λ i. of_kind A w kind i ≡ true) d e)) in
            absurd (true≢false (sym t ∙ s))

  -- the sets met infinitely often are the sets seen along the loop
  pub seen_recurrent : Recurrent A w (seen A (after A x) y)
  seen_recurrent = record {
    infinitely = λ i h. loop_infinitely (λ q l. A.marks q l i);
    finitely = λ i h s. (length x, loop_finitely (λ q l. A.marks q l i) s);
  }

  -- the one transition from q by l
  abbrev only : ℕ → ℕ → ℕ → ℕ → Bool
  only q l p k = eqb p q && eqb k l

  -- Inf(ρ): the transitions taken along the loop
  pub loop_inf : Inf A w
  loop_inf = record {
    often = λ q l. meets A.step (only q l) (after A x) y;
    inside = λ q l hq hl s n. (let (j, h, t) = loop_infinitely (only q l) s n in
        (j, h, (eqb-true _ _ (and_left (eqb (state A w j) q) (eqb (w j) l) t), eqb-true _ _ (and_right (eqb (state A w j) q) (eqb (w j) l) t))));
    outside = λ q l hq hl s. (length x, λ j h (a, b). true≢false (sym (and_true (eq-eqb _ _ a) (eq-eqb _ _ b)) ∙ loop_finitely (only q l) s j h));
  }

  -- so on such a word the automaton's answer is the verdict on the loop
  pub accepts_verdict : WellFormed A → ((i : ℕ) → w i < A.letters) → Accepts A w ↔ (verdict A x y ≡ true)
  accepts_verdict F letters = accepts_recurrent F w letters loop_inf seen_recurrent

pub lasso_verdict : {A : Aut} → WellFormed A → (x y : List ℕ) → Over A.letters x → Over A.letters y → y ≢ [] → Closed A x y → Accepts A (lasso x y) ↔ (verdict A x y ≡ true)
lasso_verdict {A} F x y ox oy ne back = accepts_verdict A (lasso x y) (lasso_reads x y) back ne F (lasso_over A.letters x y ox oy ne)
