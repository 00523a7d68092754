-- Where a map of A's states to B's keeps the start, every transition and the marks, and the acceptance is one, A and B agree.
use Rattle.std.specs.Prelude.{◌≡◌, refl, Bool, ◌||◌, ℕ, ◌<◌}
use Rattle.std.proofs.Math.Path.{ap}
use Rattle.std.proofs.Common.{ap₂, ◌∙◌}
use mathlib.Core.List.{List, [], ◌∷◌}
use Rattle.meaning.specs.Walk.{run}
use Rattle.meaning.specs.Automata.{Aut, WellFormed}
use Rattle.meaning.specs.Agreement.{Agree, Over}
use Rattle.meaning.specs.Run.{after, seen, run_lt}
use Rattle.meaning.specs.ClosedLoop.{CyclesAgree}
use Rattle.meaning.proofs.CycleLemma.{cycles→agree}
use Rattle.meaning.specs.Homomorphism.{Homomorphism, KeepsMarks}

module _ {A B : Aut} {h : ℕ → ℕ} (F : WellFormed A) (H : Homomorphism A B h) where
  pub run_image : (q : ℕ) (u : List ℕ) → q < A.states → Over A.letters u → h (run A.step q u) ≡ run B.step (h q) u
  run_image q [] g o = refl
  run_image q (l ∷ u) g o = run_image (A.step q l) u (F.step_lt q l g o.0) o.1 ∙ ap (λ p. run B.step p u) (H.step q l g o.0)

  pub after_image : (u : List ℕ) → Over A.letters u → h (after A u) ≡ after B u
  after_image u o = run_image A.start u F.start_lt o ∙ ap (λ p. run B.step p u) H.start

  -- a set that is carried alike is seen alike
  seen_image : (i : ℕ) → ((q l : ℕ) → q < A.states → l < A.letters → A.marks q l i ≡ B.marks (h q) l i)
      → (q : ℕ) (y : List ℕ) → q < A.states → Over A.letters y → seen A q y i ≡ seen B (h q) y i
  seen_image i same q [] g o = refl
  seen_image i same q (l ∷ y) g o =
      ap₂ ◌||◌ (same q l g o.0)
      (seen_image i same (A.step q l) y (F.step_lt q l g o.0) o.1 ∙ ap (λ p. seen B p y i) (H.step q l g o.0))

  pub homomorphism_agree : WellFormed B → ((S : ℕ → Bool) → A.accept S ≡ B.accept S) → KeepsMarks A B h → Agree A B
  unfolding CyclesAgree
  homomorphism_agree G accept same =
      cycles→agree (record { formed_A = F; formed_B = G; same_letters = H.letters })
      (λ x y ox oy ne ca cb. verdicts (after A x) y (run_lt F A.start x F.start_lt ox) oy ∙ ap (λ p. B.accept (seen B p y)) (after_image x ox))
    where
      -- what A says of a loop from q, B says of it from h q
      verdicts : (q : ℕ) (y : List ℕ) → q < A.states → Over A.letters y → A.accept (seen A q y) ≡ B.accept (seen B (h q) y)
      verdicts q y g o =
          F.sets_owned (seen A q y) (seen B (h q) y) (λ i k. seen_image i (λ q l hq hl. same q l i hq hl k) q y g o) ∙ accept (seen B (h q) y)
