-- Under every assignment each state and letter has a true step, or there is a lowest state and letter without one.
use Rattle.std.specs.Prelude.{◌≡◌, ◌⊎◌, Bool, true, false, ℕ, zero, suc, ◌<◌, ltb}
use Rattle.std.proofs.Common.{sym, ap, ◌∙◌, inl, inr, true≢false, arith, below_more}
use borrow.Author.Tests.{lt-ltb, ltb-true}
use Rattle.meaning.specs.Tests.{all}
use Rattle.meaning.specs.TestLaws.{all_at, truth}
use Rattle.meaning.proofs.AllLaws.{all_of}
use Rattle.automaton.specs.declared.Automaton.{Automaton}
use Rattle.automaton.specs.Value.{letters}
use Rattle.encoding.specs.Clauses.{Assignment}
use Rattle.clause_sizes.specs.declared.Target.{Target}
use Rattle.decode.specs.Table.{decoded_table, Steps, AllStep, LowestWithout}
use Rattle.decode.specs.Value.{steps_lead, lead_steps}

-- all numbers below k pass, or there is a first that fails
first : (k : ℕ) (f : ℕ → Bool) → ((i : ℕ) → i < k → f i ≡ true) ⊎ ((i : ℕ) × (i < k) × (f i ≡ false) × ((j : ℕ) → j < i → f j ≡ true))
first zero f = inl (λ i h. absurd (omega arith))
first (suc k) f = go (first k f) (truth (f k))
  where
    go : ((i : ℕ) → i < k → f i ≡ true) ⊎ ((i : ℕ) × (i < k) × (f i ≡ false) × ((j : ℕ) → j < i → f j ≡ true)) → (f k ≡ true) ⊎ (f k ≡ false)
        → ((i : ℕ) → i < suc k → f i ≡ true) ⊎ ((i : ℕ) × (i < suc k) × (f i ≡ false) × ((j : ℕ) → j < i → f j ≡ true))
    go (inl h) (inl e) = inl (λ i g. below_more (λ i. f i ≡ true) k h e i (omega arith))
    go (inl h) (inr e) = inr (k, omega arith, e, h)
    go (inr (i, g, e, h)) t = inr (i, omega arith, e, h)

module _ (a : Automaton) (τ : Target) (ν : Assignment) where
  leads : ℕ → ℕ → Bool
  leads q l = ltb ((decoded_table a τ ν).step q l) τ.states

  leads_steps : (q l : ℕ) → leads q l ≡ true → Steps a τ ν q l
  unfolding leads
  leads_steps q l e = lead_steps a τ ν q l (ltb-true _ _ e)

  steps_leads : (q l : ℕ) → Steps a τ ν q l → leads q l ≡ true
  unfolding leads
  steps_leads q l t = lt-ltb _ _ (steps_lead a τ ν q l t)

  pub all_or_lowest : AllStep a τ ν ⊎ ((q l : ℕ) × LowestWithout a τ ν q l)
  all_or_lowest = states (first τ.states (λ q. all (letters a) (leads q)))
    where
      letter : (q : ℕ) → q < τ.states → all (letters a) (leads q) ≡ false → ((p : ℕ) → p < q → all (letters a) (leads p) ≡ true)
          → ((i : ℕ) → i < letters a → leads q i ≡ true) ⊎ ((i : ℕ) × (i < letters a) × (leads q i ≡ false) × ((j : ℕ) → j < i → leads q j ≡ true))
          → (q l : ℕ) × LowestWithout a τ ν q l
      letter q hq e before (inl h) = absurd (true≢false (sym (all_of (letters a) (leads q) h) ∙ e))
      letter q hq e before (inr (l, hl, f, h)) = (
        q,
        l,
        record {
          state_lt = hq;
          letter_lt = hl;
          no_step = λ t. true≢false (sym (steps_leads q l t) ∙ f);
          before = earlier;
        },
      )
        where
          earlier : (p j : ℕ) → j < letters a → (p < q) ⊎ ((p ≡ q) × (j < l)) → Steps a τ ν p j
          earlier p j hj (inl g) = leads_steps p j (all_at (letters a) (leads p) (before p g) j hj)
          earlier p j hj (inr (d, g)) = leads_steps p j (ap (λ r. leads r j) d ∙ h j g)

      states : ((q : ℕ) → q < τ.states → all (letters a) (leads q) ≡ true)
          ⊎ ((q : ℕ) × (q < τ.states) × (all (letters a) (leads q) ≡ false) × ((p : ℕ) → p < q → all (letters a) (leads p) ≡ true))
          → AllStep a τ ν ⊎ ((q l : ℕ) × LowestWithout a τ ν q l)
      states (inl h) = inl (λ q l hq hl. leads_steps q l (all_at (letters a) (leads q) (h q hq) l hl))
      states (inr (q, hq, e, h)) = inr (letter q hq e h (first (letters a) (leads q)))
