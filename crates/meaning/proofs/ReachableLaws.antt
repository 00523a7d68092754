-- Laws of reachable states: what the test says, the start and one letter further, and that either all are reachable or there is a lowest that is not.
use Rattle.std.specs.Prelude.{◌≡◌, refl, ◌⊎◌, ◌↔◌, true, false, [], ◌∷◌, ℕ, zero, suc, ◌<◌}
use Rattle.std.proofs.Common.{sym, ◌∙◌, subst, inl, inr, true≢false, not-suc-le-zero, arith}
use Rattle.std.proofs.Math.Decide.{ℕ_discrete}
use Rattle.meaning.specs.TestLaws.{truth}
use Rattle.meaning.specs.Automata.{Aut, WellFormed}
use Rattle.meaning.specs.Run.{run_lt}
use Rattle.meaning.proofs.ComponentLaws.{leads_then, reaches_exact}
use Rattle.meaning.specs.Reachable.{Reachable, reachable, AllReachable, LowestUnreachable}

module _ {A : Aut} (F : WellFormed A) where
  pub reachable_exact : (q : ℕ) → (reachable A q ≡ true) ↔ Reachable A q
  reachable_exact q = reaches_exact A F A.start q F.start_lt

  pub unreachable_exact : (q : ℕ) → (reachable A q ≡ false) ↔ (¬ Reachable A q)
  unreachable_exact q = (λ e r. true≢false (sym ((reachable_exact q).1 r) ∙ e), λ n. go n (truth (reachable A q)))
    where
      go : ¬ Reachable A q → (reachable A q ≡ true) ⊎ (reachable A q ≡ false) → reachable A q ≡ false
      go n (inl e) = absurd (n ((reachable_exact q).0 e))
      go n (inr e) = e

  pub reachable_lt : {q : ℕ} → Reachable A q → q < A.states
  reachable_lt (w, o, e) = subst (λ q. q < A.states) e (run_lt F A.start w F.start_lt o)

  pub start_reachable : reachable A A.start ≡ true
  start_reachable = (reachable_exact A.start).1 ([], tt, refl)

  pub step_reachable : (q l : ℕ) → l < A.letters → reachable A q ≡ true → reachable A (A.step q l) ≡ true
  step_reachable q l h e = (reachable_exact (A.step q l)).1 (leads_then A A.start q (A.step q l) ((reachable_exact q).0 e) (l ∷ [], (h, tt), refl))

  -- the first n states are reachable, or one of them is the lowest that is not
  among : (n : ℕ) → ((q : ℕ) × (q < n) × (¬ Reachable A q) × ((p : ℕ) → p < q → Reachable A p)) ⊎ ((q : ℕ) → q < n → Reachable A q)
  among zero = inr (λ q h. absurd (not-suc-le-zero h))
  among (suc n) = go (among n) (truth (reachable A n))
    where
      go : ((q : ℕ) × (q < n) × (¬ Reachable A q) × ((p : ℕ) → p < q → Reachable A p)) ⊎ ((q : ℕ) → q < n → Reachable A q)
          → (reachable A n ≡ true) ⊎ (reachable A n ≡ false)
          → ((q : ℕ) × (q < suc n) × (¬ Reachable A q) × ((p : ℕ) → p < q → Reachable A p)) ⊎ ((q : ℕ) → q < suc n → Reachable A q)
      go (inl (q, h, u, low)) t = inl (q, omega arith, u, low)
      go (inr all) (inr e) = inl (n, omega arith, (unreachable_exact n).0 e, all)
      go (inr all) (inl e) = inr (λ q h. last q h (ℕ_discrete q n))
        where
          last : (q : ℕ) → q < suc n → Dec (q ≡ n) → Reachable A q
          last q h (yes d) = subst (Reachable A) (sym d) ((reachable_exact n).0 e)
          last q h (no d) = all q (omega arith)

  pub lowest_or_all : ((q : ℕ) × LowestUnreachable A q) ⊎ AllReachable A
  lowest_or_all = go (among A.states)
    where
      go : ((q : ℕ) × (q < A.states) × (¬ Reachable A q) × ((p : ℕ) → p < q → Reachable A p)) ⊎ ((q : ℕ) → q < A.states → Reachable A q)
          → ((q : ℕ) × LowestUnreachable A q) ⊎ AllReachable A
      go (inl (q, h, u, low)) = inl (q, record { state = h; unreachable = u; lower = low })
      go (inr all) = inr all

  pub decide_all_reachable : Dec (AllReachable A)
  decide_all_reachable = go lowest_or_all
    where
      go : ((q : ℕ) × LowestUnreachable A q) ⊎ AllReachable A → Dec (AllReachable A)
      go (inl (q, low)) = no (λ all. low.unreachable (all q low.state))
      go (inr all) = yes all

-- there is one lowest unreachable state
pub lowest_once : {A : Aut} {p q : ℕ} → LowestUnreachable A p → LowestUnreachable A q → p ≡ q
lowest_once {A} {p} {q} x y = go (ℕ_discrete p q)
  where
    go : Dec (p ≡ q) → p ≡ q
    go (yes e) = e
    go (no e) = absurd (either (λ h. x.unreachable (y.lower p h)) (λ h. y.unreachable (x.lower q h)))
      where
        either : (p < q → ⊥) → (q < p → ⊥) → ⊥
        either f g = omega (arith)
