-- The computed answer whether a walk leads from a node to a node that passes a test is the true one.
use Rattle.std.specs.Prelude.{◌≡◌, ◌⊎◌, ◌↔◌, List, [], ◌∷◌, Bool, true, ◌&&◌, ℕ, zero, suc, ◌≤◌, ◌<◌, length}
use Rattle.std.proofs.Common.{ap, ◌∙◌, inl, inr, le_of_suc-le-suc, not-suc-le-zero, arith}
use Rattle.meaning.specs.Tests.{any}
use Rattle.meaning.specs.TestLaws.{or_left, or_right, or_cases, and_true, and_left, and_right, any_at, any_find}
use Rattle.meaning.specs.Walk.{run, Walk}
use Rattle.meaning.specs.Reach.{reach}
use Rattle.meaning.specs.ShortWalk.{Numbered, short}

-- the steps: a letter of the alphabet that e lets pass
abbrev pub Step : {Q : Type 0} → ℕ → (Q → ℕ → Bool) → Q → ℕ → Type 0
Step letters e q l = (l < letters) × (e q l ≡ true)

module _ {Q : Type 0} (σ : Q → ℕ → Q) (letters : ℕ) (e : Q → ℕ → Bool) (goal : Q → Bool) where
  abbrev pub Found : ℕ → Q → Type 0
  Found k q = (w : List ℕ) × Walk σ (Step letters e) q w × (goal (run σ q w) ≡ true) × (length w ≤ k)

  pub reach_sound : (k : ℕ) (q : Q) → reach σ letters e goal k q ≡ true → Found k q
  reach_sound zero q h = ([], tt, h, omega arith)
  reach_sound (suc k) q h = go (or_cases (goal q) (any letters (λ l. e q l && reach σ letters e goal k (σ q l))) h) (λ p g. reach_sound k p g)
    where
      go : (goal q ≡ true) ⊎ (any letters (λ l. e q l && reach σ letters e goal k (σ q l)) ≡ true) → ((p : Q) → reach σ letters e goal k p ≡ true → Found k p) → Found (suc k) q
      go (inl g) ih = ([], tt, g, omega arith)
      go (inr g) ih =
          let t = any_find letters (λ l. e q l && reach σ letters e goal k (σ q l)) g in
          let l : ℕ = t.0 in
          let r = ih (σ q l) (and_right (e q l) (reach σ letters e goal k (σ q l)) t.2) in
          (l ∷ r.0, ((t.1, and_left (e q l) (reach σ letters e goal k (σ q l)) t.2), r.1), r.2, omega arith)

  pub reach_complete : (k : ℕ) (q : Q) (w : List ℕ) → Walk σ (Step letters e) q w → goal (run σ q w) ≡ true → length w ≤ k → reach σ letters e goal k q ≡ true
  reach_complete zero q [] a g h = g
  reach_complete zero q (l ∷ w) a g h = absurd (not-suc-le-zero h)
  reach_complete (suc k) q [] a g h = or_left (any letters (λ l. e q l && reach σ letters e goal k (σ q l))) g
  reach_complete (suc k) q (l ∷ w) a g h =
      or_right (goal q) (any_at letters (λ l. e q l && reach σ letters e goal k (σ q l)) l a.0.0
      (and_true a.0.1 (reach_complete k (σ q l) w a.1 g (le_of_suc-le-suc h))))

  -- among N nodes, N steps are enough
  pub reach_exact : {N : ℕ} (G : Numbered σ (Step letters e) N) (q : Q) → G.Ok q
      → (reach σ letters e goal N q ≡ true) ↔ ((w : List ℕ) × Walk σ (Step letters e) q w × (goal (run σ q w) ≡ true))
  reach_exact {N} G q o = (
    λ h. (let t = reach_sound N q h in (t.0, t.1, t.2)),
    λ t. (let s = short σ G q t.0 o t.1 in reach_complete N q s.word s.walk (ap goal s.to ∙ t.2) (omega arith)),
  )
