-- Where there is a difference of two automata, a short one is.
use Rattle.std.specs.Prelude.{◌≡◌, List, ℕ, suc, ◌+◌, ◌*◌, ◌<◌, length}
use Rattle.std.proofs.Common.{sym, ap, ◌∙◌}
use Rattle.std.proofs.Math.Path.{subst⁻¹}
use Rattle.meaning.specs.Walk.{run}
use Rattle.meaning.specs.ShortWalk.{short}
use Rattle.meaning.specs.Automata.{Aut}
use Rattle.meaning.specs.Agreement.{Comparable}
use Rattle.meaning.specs.Run.{after, seen}
use Rattle.meaning.specs.Product.{Node, both, run_both, numbered, start, start_ok, over_walk, walk_over}
use Rattle.meaning.specs.SameMarks.{same_seen}
use Rattle.meaning.specs.Difference.{Differ, LoopWithin}

module _ {A B : Aut} (C : Comparable A B) where
  abbrev Letter : Node → ℕ → Type 0
  Letter n l = l < A.letters

  -- ---- the prefix: fewer letters than there are nodes

  pub short_prefix : (x y : List ℕ) → Differ A B x y → (u : List ℕ) × Differ A B u y × (length u < A.states * B.states)
  short_prefix x y D =
      let s = short (both A B) (numbered C Letter (λ n l h. h)) (start C) x (start_ok C Letter (λ n l h. h)) (over_walk (both A B) A.letters (start C) x D.over_x) in
      let p = sym (run_both A B (start C) s.word) ∙ s.to ∙ run_both A B (start C) x in
      let a : after A s.word ≡ after A x = ap (λ n. n.0) p in
      let b : after B s.word ≡ after B x = ap (λ n. n.1) p in (
        s.word,
        record {
          over_x = walk_over (both A B) Letter A.letters (λ n l h. h) (start C) s.word s.walk;
          over_y = D.over_y;
          some = D.some;
          closed_A = subst⁻¹ (λ q. run A.step q y ≡ q) a D.closed_A;
          closed_B = subst⁻¹ (λ q. run B.step q y ≡ q) b D.closed_B;
          yes_A = ap (λ q. A.accept (seen A q y)) a ∙ D.yes_A;
          no_B = ap (λ q. B.accept (seen B q y)) b ∙ D.no_B;
        },
        s.size,
      )

  -- ---- the loop: the same sets are met

  pub short_loop : LoopWithin A B (suc (A.sets + B.sets) * (A.states * B.states))
  short_loop x y D =
      let (v, s, size) = same_seen C x y D.over_x D.over_y D.some D.closed_A D.closed_B in (
        v,
        record {
          over_x = D.over_x;
          over_y = s.over;
          some = s.some;
          closed_A = s.closed_A;
          closed_B = s.closed_B;
          yes_A = C.formed_A.sets_owned _ _ s.same_A ∙ D.yes_A;
          no_B = C.formed_B.sets_owned _ _ s.same_B ∙ D.no_B;
        },
        size,
      )
