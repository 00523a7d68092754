-- AGREEMENT IS DECIDED: two automata agree, or a lasso word distinguishes them. And how short a prefix and a loop can be that do.
use Rattle.std.specs.Prelude.{◌≡◌, refl, ◌≢◌, ◌⊎◌, false, ℕ, suc, ◌+◌, ◌*◌, ◌≤◌, ◌<◌, length}
use Rattle.std.proofs.Common.{sym, ◌∙◌, inl, inr, ⊎_elim, true≢false, add_comm, mul_comm, arith}
use mathlib.Core.List.{List, []}
use Rattle.meaning.specs.Automata.{Aut, WellFormed, Accepts}
use Rattle.meaning.specs.Agreement.{Agree, Comparable, Distinguishes, Over, lasso}
use Rattle.meaning.specs.ClosedLoop.{verdict, Closed, CyclesAgree}
use Rattle.meaning.proofs.ClosedLoopLaws.{lasso_verdict}
use Rattle.meaning.proofs.CycleLemma.{cycles→agree}
use Rattle.meaning.specs.Difference.{LoopWithin}
use Rattle.meaning.proofs.ShortDifference.{short_prefix, short_loop}
use Rattle.meaning.proofs.WordSearch.{search_words}
use Rattle.meaning.specs.Decision.{flip, CycleAgrees, Difference, not_both, ShowsWithin, over_B, over_A, classify, distinguished}

module _ {A B : Aut} (C : Comparable A B) where
  -- ---- a difference is a word that distinguishes the two

  rejects : {D : Aut} → WellFormed D → (x y : List ℕ) → Over D.letters x → Over D.letters y → y ≢ [] → Closed D x y → verdict D x y ≡ false → ¬ Accepts D (lasso x y)
  rejects F x y ox oy ne c v a = true≢false (sym ((lasso_verdict F x y ox oy ne c).0 a) ∙ v)

  pub distinguishes : (x y : List ℕ) → Difference A B x y → Distinguishes A B x y
  distinguishes x y (inl D) = record {
    over_x = D.over_x;
    over_y = D.over_y;
    some = D.some;
    apart = inl (
      (lasso_verdict C.formed_A x y D.over_x D.over_y D.some D.closed_A).1 D.yes_A,
      rejects C.formed_B x y (over_B C x D.over_x) (over_B C y D.over_y) D.some D.closed_B D.no_B,
    );
  }
  distinguishes x y (inr D) = record {
    over_x = over_A C x D.over_x;
    over_y = over_A C y D.over_y;
    some = D.some;
    apart = inr (
      rejects C.formed_A x y (over_A C x D.over_x) (over_A C y D.over_y) D.some D.closed_B D.no_B,
      (lasso_verdict C.formed_B x y D.over_x D.over_y D.some D.closed_A).1 D.yes_A,
    );
  }

  -- ---- short differences

  abbrev N : ℕ
  N = A.states * B.states

  either_way : (m : ℕ) → LoopWithin A B m → LoopWithin B A m → ShowsWithin A B m
  either_way m f g x y (inl D) = let (v, E, h) = f x y D in (v, inl E, h)
  either_way m f g x y (inr D) = let (v, E, h) = g x y D in (v, inr E, h)

  pub shows_any : ShowsWithin A B (suc (A.sets + B.sets) * (A.states * B.states))
  shows_any = either_way _ (short_loop C) (rw (mul_comm B.states A.states, add_comm B.sets A.sets) at (short_loop (flip C)))

  -- the same loop shows a difference after a prefix of fewer than N letters
  pub nearer : (x y : List ℕ) → Difference A B x y → (u : List ℕ) × Difference A B u y × (length u < A.states * B.states)
  nearer x y (inl D) = let (u, E, h) = short_prefix C x y D in (u, inl E, h)
  nearer x y (inr D) = let (u, E, h) = short_prefix (flip C) x y D in (u, inr E, rw (mul_comm B.states A.states) at h)

  -- ---- agreement, or a difference

  -- where the verdicts are the same on the short words they are the same on all
  short_enough : (m : ℕ) → ShowsWithin A B m
      → ((x : List ℕ) → Over A.letters x → length x ≤ N → (y : List ℕ) → Over A.letters y → length y ≤ m → CycleAgrees A B x y) → CyclesAgree A B
  unfolding CyclesAgree
  short_enough m within h x y ox oy ne ca cb = go (classify C x ox y oy)
    where
      go : CycleAgrees A B x y ⊎ Difference A B x y → verdict A x y ≡ verdict B x y
      go (inl f) = f ne ca cb
      go (inr d) =
          let (u, e, hu) = nearer x y d in
          let (v, f, hv) = within u y e in
          let t = distinguishes u v f in
          absurd (not_both (h u t.over_x (omega arith) v t.over_y hv) f)

  pub agree_or_difference : Agree A B ⊎ ((x : List ℕ) × (y : List ℕ) × Difference A B x y)
  agree_or_difference = go (search_words A.letters N (λ x ox. search_words A.letters m (λ y oy. classify C x ox y oy)))
    where
      m : ℕ
      m = suc (A.sets + B.sets) * N

      go : ((x : List ℕ) → Over A.letters x → length x ≤ N → (y : List ℕ) → Over A.letters y → length y ≤ m → CycleAgrees A B x y)
          ⊎ ((x : List ℕ) × Over A.letters x × ((y : List ℕ) × Over A.letters y × Difference A B x y))
          → Agree A B ⊎ ((x : List ℕ) × (y : List ℕ) × Difference A B x y)
      go (inl h) = inl (cycles→agree C (short_enough m shows_any h))
      go (inr (x, ox, (y, oy, d))) = inr (x, y, d)

-- an automaton agrees with itself
pub agree_self : {A : Aut} → WellFormed A → Agree A A
agree_self {A} F =
    let C : Comparable A A = record { formed_A = F; formed_B = F; same_letters = refl } in
    ⊎_elim (λ a. a) (λ (x, y, d). absurd (⊎_elim (λ t. t.1 t.0) (λ t. t.0 t.1) (distinguishes C x y d).apart)) (agree_or_difference C)

pub decide_agree : {A B : Aut} → Comparable A B → Dec (Agree A B)
decide_agree {A} {B} C = go (agree_or_difference C)
  where
    go : Agree A B ⊎ ((x : List ℕ) × (y : List ℕ) × Difference A B x y) → Dec (Agree A B)
    go (inl a) = yes a
    go (inr (x, y, d)) = no (distinguished (distinguishes C x y d))
