-- The union over Inf(ρ) is the set of the acceptance sets that are met infinitely often, document 01's words.
use Rattle.std.specs.Prelude.{◌≡◌, refl, ◌⊎◌, ◌↔◌, Bool, true, false, ◌&&◌, ℕ, zero, suc, ◌≤◌, ◌<◌, max}
use Rattle.std.proofs.Common.{sym, ap₂, ◌∙◌, subst, inl, inr, true≢false, not-suc-le-zero, arith}
use Rattle.std.proofs.Math.Decide.{ℕ_discrete}
use Rattle.meaning.specs.TestLaws.{and_true, and_left, and_right, any_at, any_find, truth, same_truth}
use Rattle.meaning.specs.Automata.{Aut, WellFormed, Word, Inf, Accepts, Takes, state, union, MetInfinitelyOften, MetFinitelyOften}
use Rattle.meaning.specs.Run.{state_lt}

-- S is the set of the sets that the run on w meets infinitely often
pub record Recurrent (A : Aut) (w : Word) (S : ℕ → Bool) : Type 0 where
  pub infinitely : (i : ℕ) → i < A.sets → S i ≡ true → MetInfinitelyOften A w i
  pub finitely : (i : ℕ) → i < A.sets → S i ≡ false → MetFinitelyOften A w i

-- where each of k things holds from some number on, all hold from one number on
pub one_bound : (k : ℕ) {C : ℕ → ℕ → Type 0} → ((i p q : ℕ) → p ≤ q → C i p → C i q) → ((i : ℕ) → i < k → (p : ℕ) × C i p) → (p : ℕ) × ((i : ℕ) → i < k → C i p)
one_bound zero up f = (0, λ i h. absurd (not-suc-le-zero h))
one_bound (suc k) {C} up f =
    let (p, a) = one_bound k {C = C} up (λ i h. f i (omega arith)) in
    let (q, b) = f k (omega arith) in
    (max p q, λ i h. go i h p a q b (ℕ_discrete i k))
  where
    go : (i : ℕ) → i < suc k → (p : ℕ) → ((j : ℕ) → j < k → C j p) → (q : ℕ) → C k q → Dec (i ≡ k) → C i (max p q)
    go i h p a q b (yes e) = subst (λ j. C j (max p q)) (sym e) (up k q (max p q) (omega arith) b)
    go i h p a q b (no e) = up i p (max p q) (omega arith) (a i (omega arith))

module _ (A : Aut) (w : Word) where
  -- no set is met infinitely often and finitely often
  pub not_both : (i : ℕ) → MetInfinitelyOften A w i → MetFinitelyOften A w i → ⊥
  not_both i often (n, never) = let t = often n in true≢false (sym t.2 ∙ never t.0 t.1)

  pub recurrent_exact : {S : ℕ → Bool} → Recurrent A w S → (i : ℕ) → i < A.sets → (S i ≡ true) ↔ MetInfinitelyOften A w i
  recurrent_exact {S} R i h = (R.infinitely i h, λ often. go often (truth (S i)))
    where
      go : MetInfinitelyOften A w i → (S i ≡ true) ⊎ (S i ≡ false) → S i ≡ true
      go often (inl e) = e
      go often (inr e) = absurd (not_both i often (R.finitely i h e))

  -- there is only one such set
  pub recurrent_same : {S T : ℕ → Bool} → Recurrent A w S → Recurrent A w T → (i : ℕ) → i < A.sets → S i ≡ T i
  recurrent_same {S} {T} P Q i h =
      same_truth (S i) (T i) (λ s. (recurrent_exact Q i h).1 (P.infinitely i h s)) (λ t. (recurrent_exact P i h).1 (Q.infinitely i h t))

module _ {A : Aut} (F : WellFormed A) (w : Word) (letters : (i : ℕ) → w i < A.letters) where
  module _ (I : Inf A w) (i : ℕ) where
    member : union A I.often i ≡ true → MetInfinitelyOften A w i
    member u n =
        let (q, hq, v) = any_find A.states _ u in
        let (l, hl, m) = any_find A.letters (λ l. I.often q l && A.marks q l i) v in
        let (j, h, t) = I.inside q l hq hl (and_left (I.often q l) (A.marks q l i) m) n in
        (j, h, ap₂ (λ p k. A.marks p k i) t.0 t.1 ∙ and_right (I.often q l) (A.marks q l i) m)

    -- from p on the transition from q by l is not taken, unless it does not carry i
    abbrev Settled : ℕ → ℕ → ℕ → Type 0
    Settled q l p = (j : ℕ) → p ≤ j → Takes A w j q l → A.marks q l i ≡ false

    settled_at : union A I.often i ≡ false → (q l : ℕ) → q < A.states → l < A.letters → (p : ℕ) × Settled q l p
    settled_at u q l hq hl = go (I.often q l) refl (A.marks q l i) refl
      where
        go : (b : Bool) → I.often q l ≡ b → (c : Bool) → A.marks q l i ≡ c → (p : ℕ) × Settled q l p
        go b e false f = (0, λ j h t. f)
        go true e true f =
            absurd (true≢false (sym (any_at A.states _ q hq (any_at A.letters (λ l. I.often q l && A.marks q l i) l hl (and_true e f))) ∙ u))
        go false e true f = let (p, never) = I.outside q l hq hl e in (p, λ j h t. absurd (never j h t))

    non_member : union A I.often i ≡ false → MetFinitelyOften A w i
    non_member u =
        let (p, h) = one_bound A.states {C = λ q p. (l : ℕ) → l < A.letters → Settled q l p} (λ q p r g c l hl j k. c l hl j (omega arith))
        (λ q hq. one_bound A.letters {C = Settled q} (λ l p r g c j k. c j (omega arith)) (λ l hl. settled_at u q l hq hl)) in
        (p, λ j k. h (state A w j) (state_lt F w letters j) (w j) (letters j) j k (refl, refl))

  pub union_recurrent : (I : Inf A w) → Recurrent A w (union A I.often)
  union_recurrent I = record { infinitely = λ i h. member I i; finitely = λ i h. non_member I i }

  -- THE UNION OVER Inf(ρ): a set is in it if and only if it is met infinitely often
  pub in_union : (I : Inf A w) (i : ℕ) → i < A.sets → (union A I.often i ≡ true) ↔ MetInfinitelyOften A w i
  in_union I = recurrent_exact A w (union_recurrent I)

  -- so acceptance goes by the sets met infinitely often
  pub accepts_recurrent : {S : ℕ → Bool} → Inf A w → Recurrent A w S → Accepts A w ↔ (A.accept S ≡ true)
  accepts_recurrent {S} I R = (λ a. sym (same a.inf) ∙ a.accepted, λ s. record { inf = I; accepted = same I ∙ s })
    where
      same : (J : Inf A w) → A.accept (union A J.often) ≡ A.accept S
      same J = F.sets_owned (union A J.often) S (recurrent_same A w (union_recurrent J) R)
