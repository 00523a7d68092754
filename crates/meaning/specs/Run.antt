-- Runs on finite parts of a word: where they lead, what they see, and that they keep to the automaton's states.
use Rattle.std.specs.Prelude.{◌≡◌, ◌⊎◌, List, [], ◌∷◌, Bool, true, ℕ, zero, suc, ◌+◌, ◌≤◌, ◌<◌, length}
use Rattle.std.proofs.Common.{sym, ap, ◌∙◌, subst, inl, inr, add-zero, not-suc-le-zero, le_of_suc-le-suc, arith}
use Rattle.std.proofs.lemmas.Bool.{false≢true}
use Rattle.meaning.specs.TestLaws.{or_left, or_right, or_cases}
use Rattle.meaning.specs.Walk.{run, meets}
use Rattle.meaning.specs.Automata.{Aut, WellFormed, Word, state}
use Rattle.meaning.specs.Agreement.{Over}
use Rattle.meaning.specs.LassoWord.{Reads}

-- the state after the finite word x
abbrev pub after : Aut → List ℕ → ℕ
after A x = run A.step A.start x

-- the sets that A sees as it reads y from the state q
abbrev pub seen : Aut → ℕ → List ℕ → ℕ → Bool
seen A q y i = meets A.step (λ p l. A.marks p l i) q y

pub run_lt : {A : Aut} → WellFormed A → (q : ℕ) (w : List ℕ) → q < A.states → Over A.letters w → run A.step q w < A.states
run_lt F q [] h o = h
run_lt {A} F q (l ∷ w) h o = run_lt F (A.step q l) w (F.step_lt q l h o.0) o.1

pub state_lt : {A : Aut} → WellFormed A → (w : Word) → ((i : ℕ) → w i < A.letters) → (i : ℕ) → state A w i < A.states
state_lt F w h zero = F.start_lt
state_lt {A} F w h (suc i) = F.step_lt (state A w i) (w i) (state_lt F w h i) (h i)

module _ (A : Aut) (w : Word) where
  pub state_run : (i : ℕ) (u : List ℕ) → Reads w i u → state A w (i + length u) ≡ run A.step (state A w i) u
  state_run i [] r = ap (state A w) (add-zero i)
  state_run i (l ∷ u) r =
      let e : i + suc (length u) ≡ suc i + length u = omega arith in
      ap (state A w) e ∙ state_run (suc i) u r.1 ∙ ap (λ k. run A.step (A.step (state A w i) k) u) r.0

  -- a kind of transition: that of the marks of one set, or of one transition alone
  module _ (kind : ℕ → ℕ → Bool) where
    -- the transition that reads letter j is of this kind
    abbrev pub of_kind : ℕ → Bool
    of_kind j = kind (state A w j) (w j)

    -- a kind that is met along u is that of one of the transitions that read u
    pub meets_at : (p : ℕ) (u : List ℕ) → Reads w p u → meets A.step kind (state A w p) u ≡ true → (j : ℕ) × (p ≤ j) × (of_kind j ≡ true)
    meets_at p [] r s = absurd (false≢true s)
    meets_at p (l ∷ u) r s = go (or_cases (kind (state A w p) l) (meets A.step kind (A.step (state A w p) l) u) s) (λ t. meets_at (suc p) u r.1 t)
      where
        go : (kind (state A w p) l ≡ true) ⊎ (meets A.step kind (A.step (state A w p) l) u ≡ true)
            → (meets A.step kind (state A w (suc p)) u ≡ true → (j : ℕ) × (suc p ≤ j) × (of_kind j ≡ true)) → (j : ℕ) × (p ≤ j) × (of_kind j ≡ true)
        go (inl e) ih = (p, omega arith, rw r.0 e)
        go (inr e) ih = let t = ih (subst (λ k. meets A.step kind (A.step (state A w p) k) u ≡ true) (sym r.0) e) in (t.0, omega arith, t.2)

    -- and the other way
    pub at_meets : (p m : ℕ) (u : List ℕ) → Reads w p u → m < length u → of_kind (p + m) ≡ true → meets A.step kind (state A w p) u ≡ true
    at_meets p m [] r h c = absurd (not-suc-le-zero h)
    at_meets p zero (l ∷ u) r h c = or_left (meets A.step kind (A.step (state A w p) l) u)
        (ap (kind (state A w p)) (sym r.0) ∙ subst (λ k. of_kind k ≡ true) (add-zero p) c)
    at_meets p (suc m) (l ∷ u) r h c =
        let e : p + suc m ≡ suc p + m = omega arith in
        or_right (kind (state A w p) l)
        (subst (λ k. meets A.step kind (A.step (state A w p) k) u ≡ true) r.0 (at_meets (suc p) m u r.1 (le_of_suc-le-suc h) (subst (λ k. of_kind k ≡ true) e c)))
