-- The first word that shows a difference: there is at most one, it keeps document 01's bounds, and the first of the short words is the first of all.
use Rattle.std.specs.Prelude.{◌≡◌, List, ℕ, suc, ◌+◌, ◌*◌, ◌≤◌, ◌<◌, length}
use Rattle.std.proofs.Common.{sym, ap, ◌∙◌, subst, inl, inr, ⊎_elim, zero-add, zero-mul, arith}
use Rattle.std.proofs.Math.Decide.{dec_le}
use Rattle.meaning.specs.Walk.{run}
use Rattle.meaning.specs.Automata.{Aut, state}
use Rattle.meaning.specs.Agreement.{Comparable, Over, lasso}
use Rattle.meaning.specs.FirstWord.{BroughtBack, Shows, Precedes, FirstWord}
use Rattle.meaning.specs.LassoWord.{Reads, lasso_reads}
use Rattle.meaning.specs.Run.{after, state_run}
use Rattle.meaning.specs.ClosedLoop.{Closed}
use Rattle.meaning.proofs.ClosedLoopLaws.{lasso_verdict}
use Rattle.meaning.proofs.WordOrder.{precedes_total, precedes_once}
use Rattle.meaning.specs.Decision.{Difference, ShowsWithin, classify, over_B}
use Rattle.meaning.proofs.Decided.{distinguishes, nearer}

-- ---- the loop, read once

module _ (A : Aut) (x y : List ℕ) where
  after_prefix : state A (lasso x y) (length x) ≡ after A x
  after_prefix = ap (state A (lasso x y)) (sym (zero-add (length x))) ∙ state_run A (lasso x y) 0 x (lasso_reads x y).prefix

  after_loop : state A (lasso x y) (length x + length y) ≡ run A.step (after A x) y
  after_loop =
      let e : length x + 0 * length y ≡ length x = omega (arith, zero-mul (length y)) in
      state_run A (lasso x y) (length x) y (subst (λ i. Reads (lasso x y) i y) e ((lasso_reads x y).loop 0)) ∙ ap (λ q. run A.step q y) after_prefix

  back_closed : BroughtBack A x y → Closed A x y
  back_closed e = sym after_loop ∙ e ∙ after_prefix

  closed_back : Closed A x y → BroughtBack A x y
  closed_back e = after_loop ∙ e ∙ sym after_prefix

-- ---- at most one

pub first_word_once : {A B : Aut} {x y u v : List ℕ} → FirstWord A B x y → FirstWord A B u v → (x ≡ u) × (y ≡ v)
first_word_once {x = x} {y} {u} {v} F G = precedes_once x y u v (F.first u v G.shows) (G.first x y F.shows)

-- ---- whichever of the two automata is named first

shows_flip : {A B : Aut} → A.letters ≡ B.letters → (x y : List ℕ) → Shows A B x y → Shows B A x y
shows_flip e x y S =
    let t = S.apart in
    record {
      apart = record {
        over_x = subst (λ n. Over n x) e t.over_x;
        over_y = subst (λ n. Over n y) e t.over_y;
        some = t.some;
        apart = ⊎_elim (λ (a, b). inr (b, a)) (λ (a, b). inl (b, a)) t.apart;
      };
      back_A = S.back_B;
      back_B = S.back_A;
    }

pub first_word_flip : {A B : Aut} → A.letters ≡ B.letters → {x y : List ℕ} → FirstWord A B x y → FirstWord B A x y
first_word_flip e {x} {y} F = record { shows = shows_flip e x y F.shows; first = λ u v S. F.first u v (shows_flip (sym e) u v S) }

module _ {A B : Aut} (C : Comparable A B) where
  -- ---- the words of which one is given are the differences

  pub difference_shows : (x y : List ℕ) → Difference A B x y → Shows A B x y
  difference_shows x y d = record { apart = distinguishes C x y d; back_A = closed_back A x y (closed d).0; back_B = closed_back B x y (closed d).1 }
    where
      closed : Difference A B x y → Closed A x y × Closed B x y
      closed (inl D) = (D.closed_A, D.closed_B)
      closed (inr D) = (D.closed_B, D.closed_A)

  pub shows_difference : (x y : List ℕ) → Shows A B x y → Difference A B x y
  shows_difference x y S =
      let t = S.apart in
      let ca = back_closed A x y S.back_A in
      let cb = back_closed B x y S.back_B in
      let a = lasso_verdict C.formed_A x y t.over_x t.over_y t.some ca in
      let b = lasso_verdict C.formed_B x y (over_B C x t.over_x) (over_B C y t.over_y) t.some cb in
      ⊎_elim
      (λ f. (let e = f t.some ca cb in ⊎_elim (λ (in-A, not-B). absurd (not-B (b.1 (sym e ∙ a.0 in-A)))) (λ (not-A, in-B). absurd (not-A (a.1 (e ∙ b.0 in-B)))) t.apart))
      (λ d. d)
      (classify C x t.over_x y t.over_y)

  -- a difference that precedes all differences is the first word
  pub first_difference : (x y : List ℕ) → Difference A B x y → ((u v : List ℕ) → Difference A B u v → Precedes x y u v) → FirstWord A B x y
  first_difference x y d first = record { shows = difference_shows x y d; first = λ u v S. first u v (shows_difference u v S) }

  -- ---- how long it is

  module _ (m : ℕ) (within : ShowsWithin A B m) where
    pub first_word_short : {x y : List ℕ} → FirstWord A B x y → (length x < A.states * B.states) × (length y ≤ m)
    first_word_short {x} {y} F =
        let d = shows_difference x y F.shows in
        let (u, e, hu) = nearer C x y d in
        let (v, f, hv) = within x y d in (
          omega (arith, precedes_total x y u y (F.first u y (difference_shows u y e))),
          omega (arith, precedes_total x y x v (F.first x v (difference_shows x v f))),
        )

    -- A difference that precedes those with a prefix of at most p letters and a loop of at most l precedes all, where p and l are not too small:
    -- each of the others is longer than one of these.
    pub first_of_short : (p l : ℕ) → A.states * B.states ≤ suc p → m ≤ l → (x y : List ℕ)
        → ((u v : List ℕ) → Difference A B u v → length u ≤ p → length v ≤ l → Precedes x y u v) → (u v : List ℕ) → Difference A B u v → Precedes x y u v
    first_of_short p l hp hl x y first u v d = go (dec_le (length u) p) (dec_le (length v) l)
      where
        shorter : (s t : List ℕ) → Precedes x y s t → length s + length t < length u + length v → Precedes x y u v
        shorter s t h less = inl (omega (arith, precedes_total x y s t h))

        go : Dec (length u ≤ p) → Dec (length v ≤ l) → Precedes x y u v
        go (yes hu) (yes hv) = first u v d hu hv
        go (yes hu) (no hv) = let (t, e, ht) = within u v d in shorter u t (first u t e hu (omega arith)) (omega arith)
        go (no hu) (yes hv) = let (s, e, hs) = nearer C u v d in shorter s v (first s v e (omega arith) hv) (omega arith)
        go (no hu) (no hv) =
            let (s, e, hs) = nearer C u v d in
            let (t, f, ht) = within s v e in
            shorter s t (first s t f (omega arith) (omega arith)) (omega arith)
