-- When an assignment satisfies a clause, by the clause's first literals: a negative one is a premise.
use Rattle.std.specs.Prelude.{◌≡◌, refl, ◌⊎◌, ◌↔◌, Bool, true, false, not, cond, ℕ, zero, suc, ◌<◌, ℤ, pos, neg_ℤ}
use Rattle.std.proofs.Common.{sym, ap, ◌∙◌, inl, inr, true≢false, not-suc-le-zero}
use mathlib.Core.List.Memᴰ
use mathlib.Core.List.{List, [], ◌∷◌, ◌++◌, Memᴰ}
use Rattle.std.proofs.lemmas.Bool.{not-false}
use Rattle.meaning.specs.Tests.{any}
use Rattle.meaning.specs.TestLaws.{truth, any_find, any_false}
use Rattle.encoding.specs.Clauses.{Assignment, holds, Satisfied, each}
use Rattle.encoding.specs.Loops.{each_in, each_elim}

pub holds_neg : (ν : Assignment) (k : ℕ) → 0 < k → holds ν (neg_ℤ (pos k)) ≡ not (ν k)
holds_neg ν zero h = absurd (not-suc-le-zero h)
holds_neg ν (suc k) h = refl

module _ (ν : Assignment) where
  pub no_literal : Satisfied ν [] ↔ ⊥
  no_literal = (λ t. Memᴰ.not-nil t.1, λ e. absurd e)

  pub one_literal : (k : ℕ) → Satisfied ν (pos k ∷ []) ↔ (ν k ≡ true)
  one_literal k = (
    λ t. sym (ap (holds ν) (Memᴰ.eq_of_singleton t.1)) ∙ t.2,
    λ e. (pos k, Memᴰ.head refl, e),
  )

  pub premise : {k : ℕ} {c : List ℤ} {X : Type 0} → 0 < k → (Satisfied ν c ↔ X) → Satisfied ν (neg_ℤ (pos k) ∷ c) ↔ (ν k ≡ true → X)
  premise {k} {c} {X} from_1 rest = (λ t e. out t e (Memᴰ.cases_cons t.1), λ f. into f (truth (ν k)))
    where
      out : (t : Satisfied ν (neg_ℤ (pos k) ∷ c)) → ν k ≡ true → (t.0 ≡ neg_ℤ (pos k)) ⊎ Memᴰ t.0 c → X
      out t e (inl i) = absurd (true≢false (sym t.2 ∙ ap (holds ν) i ∙ holds_neg ν k from_1 ∙ ap not e))
      out t e (inr i) = rest.0 (t.0, i, t.2)

      into : (ν k ≡ true → X) → (ν k ≡ true) ⊎ (ν k ≡ false) → Satisfied ν (neg_ℤ (pos k) ∷ c)
      into f (inl e) = let t = rest.1 (f e) in (t.0, Memᴰ.tail t.1, t.2)
      into f (inr e) = (neg_ℤ (pos k), Memᴰ.head refl, holds_neg ν k from_1 ∙ ap not e)

  -- a loop of literals: that none of them holds is a premise
  pub loop_premise : (m : ℕ) (f : ℕ → ℤ) {c : List ℤ} {X : Type 0} → (Satisfied ν c ↔ X)
      → Satisfied ν (each m (λ i. f i ∷ []) ++ c) ↔ (((i : ℕ) → i < m → holds ν (f i) ≡ false) → X)
  loop_premise m f {c} {X} rest = (
    λ t h. out t h (Memᴰ.append_cases (each m (λ i. f i ∷ [])) t.1),
    λ g. into g (truth (any m (λ i. holds ν (f i)))),
  )
    where
      out : (t : Satisfied ν (each m (λ i. f i ∷ []) ++ c)) → ((i : ℕ) → i < m → holds ν (f i) ≡ false)
          → Memᴰ t.0 (each m (λ i. f i ∷ [])) ⊎ Memᴰ t.0 c → X
      out t h (inl k) = each_elim (λ i hi e. absurd (true≢false (sym t.2 ∙ ap (holds ν) (Memᴰ.eq_of_singleton e) ∙ h i hi))) k
      out t h (inr k) = rest.0 (t.0, k, t.2)

      into : (((i : ℕ) → i < m → holds ν (f i) ≡ false) → X) → (any m (λ i. holds ν (f i)) ≡ true) ⊎ (any m (λ i. holds ν (f i)) ≡ false)
          → Satisfied ν (each m (λ i. f i ∷ []) ++ c)
      into g (inl e) = let (i, hi, a) = any_find m _ e in (f i, Memᴰ.append_left c (each_in _ i hi (Memᴰ.head refl)), a)
      into g (inr e) = let t = rest.1 (g (any_false m (λ i. holds ν (f i)) e)) in (t.0, Memᴰ.append_right (each m (λ i. f i ∷ [])) t.1, t.2)

  -- a loop of literals alone: one of them holds
  pub some_literal : (m : ℕ) (f : ℕ → ℤ) → Satisfied ν (each m (λ i. f i ∷ [])) ↔ ((i : ℕ) × (i < m) × (holds ν (f i) ≡ true))
  some_literal m f = (
    λ (x, k, e). each_elim (λ i hi a. (i, hi, sym (ap (holds ν) (Memᴰ.eq_of_singleton a)) ∙ e)) k,
    λ (i, hi, e). (f i, each_in _ i hi (Memᴰ.head refl), e),
  )

  -- "the variable, negative if b" is false just where the assignment says b
  pub signed_false : {k : ℕ} → 0 < k → (b : Bool) → (holds ν (cond b (neg_ℤ (pos k)) (pos k)) ≡ false) ↔ (ν k ≡ b)
  signed_false {k} from_1 true = (λ e. not-false (ν k) (sym (holds_neg ν k from_1) ∙ e), λ e. holds_neg ν k from_1 ∙ ap not e)
  signed_false from_1 false = (λ e. e, λ e. e)
