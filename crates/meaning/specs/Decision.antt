-- A difference, whichever of two automata accepts: the cycle condition holds at x and y, or there is one.
use Rattle.std.specs.Prelude.{◌≡◌, refl, ◌≢◌, ◌⊎◌, Bool, true, false, ℕ, ◌≤◌, length}
use Rattle.std.proofs.Common.{sym, ◌∙◌, inl, inr, true≢false}
use mathlib.Core.List.{List, [], ◌∷◌, cons≢nil}
use Rattle.std.proofs.Math.Decide.{ℕ_discrete}
use Rattle.meaning.specs.Walk.{run}
use Rattle.meaning.specs.Automata.{Aut, Accepts}
use Rattle.meaning.specs.Agreement.{Agree, AgreeOn, Comparable, Distinguishes, Over, lasso}
use Rattle.meaning.specs.Run.{after}
use Rattle.meaning.specs.ClosedLoop.{verdict, Closed}
use Rattle.meaning.specs.Difference.{Differ}

pub flip : {A B : Aut} → Comparable A B → Comparable B A
flip C = record { formed_A = C.formed_B; formed_B = C.formed_A; same_letters = sym C.same_letters }

-- the cycle condition at x and y
abbrev pub CycleAgrees : Aut → Aut → List ℕ → List ℕ → Type 0
CycleAgrees A B x y = y ≢ [] → Closed A x y → Closed B x y → verdict A x y ≡ verdict B x y

-- a difference, whichever of the two accepts
abbrev pub Difference : Aut → Aut → List ℕ → List ℕ → Type 0
Difference A B x y = Differ A B x y ⊎ Differ B A x y

pub not_both : {A B : Aut} {x y : List ℕ} → CycleAgrees A B x y → Difference A B x y → ⊥
not_both f (inl D) = true≢false (sym D.yes_A ∙ f D.some D.closed_A D.closed_B ∙ D.no_B)
not_both f (inr D) = true≢false (sym D.yes_A ∙ sym (f D.some D.closed_B D.closed_A) ∙ D.no_B)

-- each difference shows after the same prefix in a loop of at most m letters
abbrev pub ShowsWithin : Aut → Aut → ℕ → Type 0
ShowsWithin A B m = (x y : List ℕ) → Difference A B x y → (v : List ℕ) × Difference A B x v × (length v ≤ m)

module _ {A B : Aut} (C : Comparable A B) where
  -- words over the letters of one are words over the letters of the other
  pub over_B : (w : List ℕ) → Over A.letters w → Over B.letters w
  over_B w o = rw C.same_letters at o

  pub over_A : (w : List ℕ) → Over B.letters w → Over A.letters w
  over_A w o = rw (← C.same_letters) at o

  -- ---- the cycle condition holds at x and y, or there is a difference

  module _ (x : List ℕ) (ox : Over A.letters x) where
    by_verdicts : (y : List ℕ) → Over A.letters y → y ≢ [] → Closed A x y → Closed B x y → (a b : Bool) → verdict A x y ≡ a → verdict B x y ≡ b
        → CycleAgrees A B x y ⊎ Difference A B x y
    by_verdicts y oy ne ca cb true true ea eb = inl (λ _ _ _. ea ∙ sym eb)
    by_verdicts y oy ne ca cb false false ea eb = inl (λ _ _ _. ea ∙ sym eb)
    by_verdicts y oy ne ca cb true false ea eb = inr (inl (record { over_x = ox; over_y = oy; some = ne; closed_A = ca; closed_B = cb; yes_A = ea; no_B = eb }))
    by_verdicts y oy ne ca cb false true ea eb = inr (inr (record {
      over_x = over_B x ox;
      over_y = over_B y oy;
      some = ne;
      closed_A = cb;
      closed_B = ca;
      yes_A = eb;
      no_B = ea;
    }))

    by_closing : (y : List ℕ) → Over A.letters y → y ≢ [] → Dec (Closed A x y) → Dec (Closed B x y) → CycleAgrees A B x y ⊎ Difference A B x y
    by_closing y oy ne (yes ca) (yes cb) = by_verdicts y oy ne ca cb (verdict A x y) (verdict B x y) refl refl
    by_closing y oy ne (yes ca) (no cb) = inl (λ _ _ c. absurd (cb c))
    by_closing y oy ne (no ca) d = inl (λ _ c _. absurd (ca c))

    pub classify : (y : List ℕ) → Over A.letters y → CycleAgrees A B x y ⊎ Difference A B x y
    classify [] oy = inl (λ ne. absurd (ne refl))
    classify (l ∷ y) oy =
        by_closing (l ∷ y) oy cons≢nil (ℕ_discrete (run A.step (after A x) (l ∷ y)) (after A x)) (ℕ_discrete (run B.step (after B x) (l ∷ y)) (after B x))

-- a word that distinguishes the two refutes agreement
pub distinguished : {A B : Aut} {x y : List ℕ} → Distinguishes A B x y → ¬ Agree A B
unfolding Agree
distinguished {A} {B} {x} {y} t a = go (a x y t.over_x t.over_y t.some) t.apart
  where
    go : AgreeOn A B (lasso x y) → (Accepts A (lasso x y) × ¬ Accepts B (lasso x y)) ⊎ (¬ Accepts A (lasso x y) × Accepts B (lasso x y)) → ⊥
    go (inl b) (inl d) = d.1 b.1
    go (inl b) (inr d) = d.0 b.0
    go (inr b) (inl d) = b.0 d.0
    go (inr b) (inr d) = b.1 d.1
