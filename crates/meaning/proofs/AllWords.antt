-- FROM LASSO WORDS TO ALL WORDS. Two automata agree on every lasso word if and only if they agree on every infinite word.
use Rattle.std.specs.Prelude.{◌≡◌, refl, ◌≢◌, ◌⊎◌, ◌↔◌, Bool, true, false, length}
use Rattle.std.proofs.Math.Path.{sym, ap}
use Rattle.std.proofs.Common.{◌∙◌, subst, inl, inr, true≢false, not-suc-le-zero, le_refl, le_trans, zero-add, arith}
use mathlib.Core.List.{List, [], ◌∷◌, cons≢nil}
use Prim.Native.Nat.{ℕ, zero, suc, ◌+◌, ◌-◌, ◌*◌, ◌≤◌, ◌<◌, max}
use Rattle.std.proofs.Math.Nat.{add-zero, add-suc}
use Rattle.meaning.specs.Pigeonhole.{Twice, pigeonhole}
use Rattle.meaning.specs.TestLaws.{truth, same_truth}
use Rattle.meaning.specs.Walk.{run}
use Rattle.meaning.specs.ShortWalk.{Numbered}
use Rattle.meaning.specs.Automata.{Aut, Word, state, union, carries}
use Rattle.meaning.specs.Agreement.{Agree, AgreeEverywhere, Comparable, Over, lasso}
use Rattle.meaning.specs.LassoWord.{Reads, lasso_over}
use Rattle.meaning.specs.Run.{after, seen, state_run, meets_at, at_meets}
use Rattle.meaning.specs.Recurrence.{Recurrent, one_bound, union_recurrent, accepts_recurrent}
use Rattle.meaning.specs.ClosedLoop.{verdict, Closed, CyclesAgree}
use Rattle.meaning.specs.Product.{Node, numbered, both, state_ok}
use Rattle.meaning.proofs.CycleLemma.{agree→cycles, answers_agree, lasso_inf}
use Rattle.meaning.specs.Decision.{flip, over_B}

-- ---- n letters of w from place p on
abbrev part : Word → ℕ → ℕ → List ℕ
part w p zero = []
part w p (suc n) = w p ∷ part w (suc p) n

part_reads : (w : Word) (p n : ℕ) → Reads w p (part w p n)
part_reads w p zero = tt
part_reads w p (suc n) = (refl, part_reads w (suc p) n)

length_part : (w : Word) (p n : ℕ) → length (part w p n) ≡ n
length_part w p zero = refl
length_part w p (suc n) = ap suc (length_part w (suc p) n)

part_over : (w : Word) (k p n : ℕ) → ((i : ℕ) → w i < k) → Over k (part w p n)
part_over w k p zero h = tt
part_over w k p (suc n) h = (h p, part_over w k (suc p) n h)

part_some : (w : Word) (p n : ℕ) → 0 < n → part w p n ≢ []
part_some w p zero h = absurd (not-suc-le-zero h)
part_some w p (suc n) h = cons≢nil

module _ (A : Aut) (w : Word) where
  part_run : (p n : ℕ) → state A w (p + n) ≡ run A.step (state A w p) (part w p n)
  part_run p n = ap (λ k. state A w (p + k)) (sym (length_part w p n)) ∙ state_run A w p (part w p n) (part_reads w p n)

  part_after : (n : ℕ) → state A w n ≡ after A (part w 0 n)
  part_after n = ap (state A w) (sym (zero-add n)) ∙ part_run 0 n

  module _ {S : ℕ → Bool} (O : Recurrent A w S) where
    -- from some place on only the sets of S are met
    settled : (p : ℕ) × ((i : ℕ) → i < A.sets → S i ≡ false → (j : ℕ) → p ≤ j → carries A w j i ≡ false)
    settled = one_bound A.sets {C = λ i p. S i ≡ false → (j : ℕ) → p ≤ j → carries A w j i ≡ false}
        (λ i p q h c e j g. c e j (omega arith)) (λ i h. go i h (truth (S i)))
      where
        go : (i : ℕ) → i < A.sets → (S i ≡ true) ⊎ (S i ≡ false) → (p : ℕ) × (S i ≡ false → (j : ℕ) → p ≤ j → carries A w j i ≡ false)
        go i h (inl e) = (0, λ f. absurd (true≢false (sym e ∙ f)))
        go i h (inr e) = let t = O.finitely i h e in (t.0, λ f. t.1)

    -- and before some place after p all of S are
    met_by : (p : ℕ) → (g : ℕ) × ((i : ℕ) → i < A.sets → S i ≡ true → (j : ℕ) × (p ≤ j) × (j < g) × (carries A w j i ≡ true))
    met_by p = one_bound A.sets {C = λ i g. S i ≡ true → (j : ℕ) × (p ≤ j) × (j < g) × (carries A w j i ≡ true)}
        (λ i g q h c e. (let t = c e in (t.0, t.1, omega arith, t.3))) (λ i h. go i h (truth (S i)))
      where
        go : (i : ℕ) → i < A.sets → (S i ≡ true) ⊎ (S i ≡ false) → (g : ℕ) × (S i ≡ true → (j : ℕ) × (p ≤ j) × (j < g) × (carries A w j i ≡ true))
        go i h (inl e) = let t = O.infinitely i h e p in (suc t.0, λ f. (t.0, t.1, omega arith, t.2))
        go i h (inr e) = (0, λ f. absurd (true≢false (sym f ∙ e)))

    -- so S is what is seen along a part that is late and long enough
    part_seen : (p n : ℕ) → settled.0 ≤ p → (met_by p).0 ≤ p + n → (i : ℕ) → i < A.sets → seen A (state A w p) (part w p n) i ≡ S i
    part_seen p n hp hn i h = same_truth (seen A (state A w p) (part w p n) i) (S i)
        (λ s. (let t = meets_at A w (λ q l. A.marks q l i) p (part w p n) (part_reads w p n) s in only t.0 (omega arith) t.2 (truth (S i))))
        (λ s. (let t = (met_by p).1 i h s in
        let m : ℕ = t.0 - p in
        let e : t.0 ≡ p + m = omega arith in
        at_meets A w (λ q l. A.marks q l i) p m (part w p n) (part_reads w p n) (rw length_part (omega arith)) (subst (λ j. carries A w j i ≡ true) e t.3)))
      where
        only : (j : ℕ) → settled.0 ≤ j → (carries A w j i ≡ true) → (S i ≡ true) ⊎ (S i ≡ false) → S i ≡ true
        only j g c (inl e) = e
        only j g c (inr e) = absurd (true≢false (sym c ∙ settled.1 i h e j g))

module _ {A B : Aut} (C : Comparable A B) where
  module _ (w : Word) (letters : (i : ℕ) → w i < A.letters) {S T : ℕ → Bool} (O : Recurrent A w S) (P : Recurrent B w T) where
    -- places, each so far behind the last that all of S and T is met between
    next : ℕ → ℕ
    next p = suc (max p (max (met_by A w O p).0 (met_by B w P p).0))

    place : ℕ → ℕ
    place zero = max (settled A w O).0 (settled B w P).0
    place (suc k) = next (place k)

    place_add : (a d : ℕ) → place a ≤ place (a + d)
    unfolding place next
    place_add a zero = rw add-zero (le_refl (place a))
    place_add a (suc d) = rw add-suc (le_trans (place_add a d) (omega arith))

    place_le : (a b : ℕ) → a ≤ b → place a ≤ place b
    place_le a b h = let e : a + (b - a) ≡ b = omega arith in subst (λ k. place a ≤ place k) e (place_add a (b - a))

    -- between two of them at one node lies a closed walk that sees S and T
    between : CyclesAgree A B → (p n : ℕ) → 0 < n → (settled A w O).0 ≤ p → (settled B w P).0 ≤ p → (met_by A w O p).0 ≤ p + n → (met_by B w P p).0 ≤ p + n
        → state A w p ≡ state A w (p + n) → state B w p ≡ state B w (p + n) → A.accept S ≡ B.accept T
    unfolding CyclesAgree
    between c p n pos sa sb ma mb ea eb =
        let x : List ℕ = part w 0 p in
        let y : List ℕ = part w p n in
        let va : verdict A x y ≡ A.accept S = C.formed_A.sets_owned (seen A (after A x) y) S (λ i h. ap (λ q. seen A q y i) (sym (part_after A w p)) ∙ part_seen A w O p n sa ma i h) in
        let vb : verdict B x y ≡ B.accept T = C.formed_B.sets_owned (seen B (after B x) y) T (λ i h. ap (λ q. seen B q y i) (sym (part_after B w p)) ∙ part_seen B w P p n sb mb i h) in
        sym va ∙ c x y (part_over w A.letters 0 p letters) (part_over w A.letters p n letters) (part_some w p n pos) (closed A p n ea) (closed B p n eb) ∙ vb
      where
        closed : (D : Aut) (q m : ℕ) → state D w q ≡ state D w (q + m) → Closed D (part w 0 q) (part w q m)
        closed D q m e = ap (λ s. run D.step s (part w q m)) (sym (part_after D w q)) ∙ sym (part_run D w q m) ∙ sym e ∙ part_after D w q

    everywhere : CyclesAgree A B → A.accept S ≡ B.accept T
    unfolding place next
    everywhere c = go (pigeonhole (A.states * B.states) (λ k. G.code (at k)) (λ k h. G.small (at k) (ok k)))
      where
        G : Numbered (both A B) (λ n l. l < A.letters) (A.states * B.states)
        G = numbered C (λ n l. l < A.letters) (λ n l h. h)

        at : ℕ → Node
        at k = (state A w (place k), state B w (place k))

        ok : (k : ℕ) → G.Ok (at k)
        ok k = state_ok C (λ n l. l < A.letters) (λ n l h. h) w letters (place k)

        go : Twice (λ k. G.code (at k)) (A.states * B.states) → A.accept S ≡ B.accept T
        go (a, b, l, m, e) =
            let p : ℕ = place a in
            let n : ℕ = place b - place a in
            let far : next p ≤ place b = place_le (suc a) b l in
            let first : place 0 ≤ p = place_le 0 a (omega arith) in
            let s : place b ≡ p + n = omega arith in
            let same : at a ≡ at b = G.same (at a) (at b) (ok a) (ok b) e in
            between c p n (omega arith) (omega arith) (omega arith) (omega arith) (omega arith) (ap (λ k. k.0) same ∙ ap (state A w) s) (ap (λ k. k.1) same ∙ ap (state B w) s)

  -- each verdict is that of Inf(ρ)
  pub agree→everywhere : Agree A B → AgreeEverywhere A B
  unfolding AgreeEverywhere
  agree→everywhere a w letters I J =
      let letters-B : (i : ℕ) → w i < B.letters = λ i. rw C.same_letters at (letters i) in
      let R = union_recurrent C.formed_A w letters I in
      let Q = union_recurrent C.formed_B w letters-B J in
      answers_agree (A.accept (union A I.often)) (B.accept (union B J.often))
      (accepts_recurrent C.formed_A w letters I R) (accepts_recurrent C.formed_B w letters-B J Q) (everywhere w letters R Q (agree→cycles C a))

  -- and back: a lasso word is an infinite word
  pub everywhere→agree : AgreeEverywhere A B → Agree A B
  unfolding AgreeEverywhere Agree
  everywhere→agree e x y ox oy ne =
      e (lasso x y) (lasso_over A.letters x y ox oy ne) (lasso_inf C x y ox oy ne) (lasso_inf (flip C) x y (over_B C x ox) (over_B C y oy) ne)

  pub agree_everywhere : Agree A B ↔ AgreeEverywhere A B
  agree_everywhere = (agree→everywhere, everywhere→agree)
