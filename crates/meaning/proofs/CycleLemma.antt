-- THE CYCLE LEMMA. Two automata agree on all lasso words if and only if they agree on all closed walks of their product that are reached.
use Rattle.std.specs.Prelude.{◌≡◌, refl, ◌≢◌, ◌↔◌, Bool, true, false, ℕ, suc, ◌+◌, ◌-◌, ◌*◌, ◌<◌}
use Rattle.std.proofs.Common.{sym, ap, ◌∙◌, inl, inr, arith}
use mathlib.Core.List.{List, [], ◌∷◌, ◌++◌, append_assoc, cons≢nil}
use Rattle.std.proofs.lemmas.Bool.{false≢true}
use Rattle.meaning.specs.Pigeonhole.{Twice, pigeonhole}
use Rattle.meaning.specs.TestLaws.{same_truth}
use Rattle.meaning.specs.Walk.{run}
use Rattle.meaning.specs.WalkLaws.{run_append}
use Rattle.meaning.specs.ShortWalk.{Numbered, ok_run}
use Rattle.meaning.specs.Automata.{Aut, Word, Inf, Accepts}
use Rattle.meaning.specs.Agreement.{Agree, AgreeOn, Comparable, Over, lasso}
use Rattle.meaning.specs.LassoWord.{IsLasso, lasso_reads, lasso_over, times, times_add, unroll, over_append, over_times}
use Rattle.meaning.specs.ClosedLoop.{verdict, Closed, CyclesAgree}
use Rattle.meaning.proofs.ClosedLoopLaws.{accepts_verdict, lasso_verdict, loop_inf}
use Rattle.meaning.specs.Product.{Node, both, run_both, numbered, start, start_ok, over_walk}

-- two equal answers: both accept or neither does
pub answers_agree : {A B : Aut} {w : Word} (a b : Bool) → Accepts A w ↔ (a ≡ true) → Accepts B w ↔ (b ≡ true) → a ≡ b → AgreeOn A B w
answers_agree true b p q e = inl (p.1 refl, q.1 (sym e))
answers_agree false b p q e = inr (λ h. false≢true (p.0 h), λ h. false≢true (e ∙ q.0 h))

agree_answers : {A B : Aut} {w : Word} (a b : Bool) → Accepts A w ↔ (a ≡ true) → Accepts B w ↔ (b ≡ true) → AgreeOn A B w → a ≡ b
agree_answers a b p q (inl t) = p.0 t.0 ∙ sym (q.0 t.1)
agree_answers a b p q (inr t) = same_truth a b (λ e. absurd (t.0 (p.1 e))) (λ e. absurd (t.1 (q.1 e)))

times_not_nil : (k : ℕ) (y : List ℕ) → y ≢ [] → times (suc k) y ≢ []
times_not_nil k [] h = absurd (h refl)
times_not_nil k (l ∷ y) h = cons≢nil

-- where x yⁱ and x yʲ lead to one node, yʲ⁻ⁱ leads from it back to it
closes : {Q : Type 0} (σ : Q → ℕ → Q) (s : Q) (x y : List ℕ) (i j k : ℕ) → i + k ≡ j → run σ s (x ++ times i y) ≡ run σ s (x ++ times j y)
    → run σ (run σ s (x ++ times i y)) (times k y) ≡ run σ s (x ++ times i y)
closes σ s x y i j k e h =
    sym (run_append σ s (x ++ times i y) (times k y))
    ∙ ap (run σ s) (append_assoc x (times i y) (times k y) ∙ ap (λ u. x ++ u) (sym (times_add i k y) ∙ ap (λ n. times n y) e)) ∙ sym h

module _ {A B : Aut} (C : Comparable A B) where
  -- the lasso word of x and y, read as that of x yⁱ and yᵏ⁺¹, whose loop leads both automata back
  record Unrolled (x y : List ℕ) : Type 0 where
    first : ℕ
    more : ℕ
    closed_A : Closed A (x ++ times first y) (times (suc more) y)
    closed_B : Closed B (x ++ times first y) (times (suc more) y)

  -- among the nodes after x, x y, x y y, .. one comes twice
  unrolled : (x y : List ℕ) → Over A.letters x → Over A.letters y → Unrolled x y
  unrolled x y ox oy = go (pigeonhole (A.states * B.states) (λ i. G.code (at i)) (λ i l. G.small (at i) (ok i)))
    where
      G : Numbered (both A B) (λ n l. l < A.letters) (A.states * B.states)
      G = numbered C (λ n l. l < A.letters) (λ n l h. h)

      at : ℕ → Node
      at i = run (both A B) (start C) (x ++ times i y)

      ok : (i : ℕ) → G.Ok (at i)
      ok i =
          ok_run (both A B) G (start C) (x ++ times i y) (start_ok C (λ n l. l < A.letters) (λ n l h. h))
          (over_walk (both A B) A.letters (start C) (x ++ times i y) (over_append A.letters x (times i y) ox (over_times A.letters i y oy)))

      go : Twice (λ i. G.code (at i)) (A.states * B.states) → Unrolled x y
      go (i, j, l, m, e) =
          let k : ℕ = j - suc i in
          let s : i + suc k ≡ j = omega arith in
          let p = sym (run_both A B (start C) (x ++ times i y)) ∙ G.same (at i) (at j) (ok i) (ok j) e ∙ run_both A B (start C) (x ++ times j y) in
          record {
            first = i;
            more = k;
            closed_A = closes A.step A.start x y i j (suc k) s (ap (λ n. n.0) p);
            closed_B = closes B.step B.start x y i j (suc k) s (ap (λ n. n.1) p);
          }

  module _ (x y : List ℕ) (ox : Over A.letters x) (oy : Over A.letters y) (ne : y ≢ []) where
    abbrev U : Unrolled x y
    U = unrolled x y ox oy

    abbrev prefix : List ℕ
    prefix = x ++ times U.first y

    abbrev loop : List ℕ
    loop = times (suc U.more) y

    is_lasso : IsLasso prefix loop (lasso x y)
    is_lasso = unroll (lasso_reads x y) U.first (suc U.more)

    some : loop ≢ []
    some = times_not_nil U.more y ne

    letters : (i : ℕ) → lasso x y i < A.letters
    letters = lasso_over A.letters x y ox oy ne

    -- Inf(ρ) of A's run on a lasso word
    pub lasso_inf : Inf A (lasso x y)
    lasso_inf = loop_inf A (lasso x y) is_lasso U.closed_A some

    cycles_agree_on : CyclesAgree A B → AgreeOn A B (lasso x y)
    unfolding CyclesAgree
    cycles_agree_on c =
        answers_agree (verdict A prefix loop) (verdict B prefix loop)
        (accepts_verdict A (lasso x y) is_lasso U.closed_A some C.formed_A letters)
        (accepts_verdict B (lasso x y) is_lasso U.closed_B some C.formed_B (λ i. rw C.same_letters at (letters i)))
        (c prefix loop (over_append A.letters x (times U.first y) ox (over_times A.letters U.first y oy)) (over_times A.letters (suc U.more) y oy) some U.closed_A U.closed_B)

  pub cycles→agree : CyclesAgree A B → Agree A B
  unfolding Agree
  cycles→agree c x y ox oy ne = cycles_agree_on x y ox oy ne c

  pub agree→cycles : Agree A B → CyclesAgree A B
  unfolding CyclesAgree Agree
  agree→cycles a x y ox oy ne ca cb =
      agree_answers (verdict A x y) (verdict B x y) (lasso_verdict C.formed_A x y ox oy ne ca)
      (lasso_verdict C.formed_B x y (rw C.same_letters at ox) (rw C.same_letters at oy) ne cb) (a x y ox oy ne)

  pub cycle_lemma : Agree A B ↔ CyclesAgree A B
  cycle_lemma = (agree→cycles, cycles→agree)
