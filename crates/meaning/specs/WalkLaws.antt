-- Laws of walks: one after another, in parts, and the steps that they meet.
use Rattle.std.specs.Prelude.{◌≡◌, refl, ◌⊎◌, List, [], ◌∷◌, ◌++◌, Bool, true, ◌||◌, ℕ, zero, suc, take, drop}
use Rattle.std.proofs.Common.{ap, inl, inr}
use Rattle.std.proofs.lemmas.Bool.{false≢true}
use Rattle.meaning.specs.TestLaws.{or_left, or_right, or_cases}
use Rattle.meaning.specs.Walk.{run, Walk, meets}

module _ {Q : Type 0} (σ : Q → ℕ → Q) where
  pub run_append : (q : Q) (u v : List ℕ) → run σ q (u ++ v) ≡ run σ (run σ q u) v
  run_append q [] v = refl
  run_append q (l ∷ u) v = run_append (σ q l) u v

  pub run_split : (q : Q) (i : ℕ) (w : List ℕ) → run σ (run σ q (take i w)) (drop i w) ≡ run σ q w
  run_split q zero w = refl
  run_split q (suc i) [] = refl
  run_split q (suc i) (l ∷ w) = run_split (σ q l) i w

  module _ (E : Q → ℕ → Type 0) where
    pub walk_append : (q : Q) (u v : List ℕ) → Walk σ E q u → Walk σ E (run σ q u) v → Walk σ E q (u ++ v)
    walk_append q [] v a b = b
    walk_append q (l ∷ u) v a b = (a.0, walk_append (σ q l) u v a.1 b)

    pub walk_left : (q : Q) (u v : List ℕ) → Walk σ E q (u ++ v) → Walk σ E q u
    walk_left q [] v a = tt
    walk_left q (l ∷ u) v a = (a.0, walk_left (σ q l) u v a.1)

    pub walk_right : (q : Q) (u v : List ℕ) → Walk σ E q (u ++ v) → Walk σ E (run σ q u) v
    walk_right q [] v a = a
    walk_right q (l ∷ u) v a = walk_right (σ q l) u v a.1

    pub walk_take : (q : Q) (i : ℕ) (w : List ℕ) → Walk σ E q w → Walk σ E q (take i w)
    walk_take q zero w a = tt
    walk_take q (suc i) [] a = tt
    walk_take q (suc i) (l ∷ w) a = (a.0, walk_take (σ q l) i w a.1)

    pub walk_drop : (q : Q) (i : ℕ) (w : List ℕ) → Walk σ E q w → Walk σ E (run σ q (take i w)) (drop i w)
    walk_drop q zero w a = a
    walk_drop q (suc i) [] a = tt
    walk_drop q (suc i) (l ∷ w) a = walk_drop (σ q l) i w a.1

  module _ (m : Q → ℕ → Bool) where
    pub meets_left : (q : Q) (u v : List ℕ) → meets σ m q u ≡ true → meets σ m q (u ++ v) ≡ true
    meets_left q [] v h = absurd (false≢true h)
    meets_left q (l ∷ u) v h = go (or_cases (m q l) (meets σ m (σ q l) u) h) (λ k. meets_left (σ q l) u v k)
      where
        go : (m q l ≡ true) ⊎ (meets σ m (σ q l) u ≡ true) → (meets σ m (σ q l) u ≡ true → meets σ m (σ q l) (u ++ v) ≡ true) → (m q l || meets σ m (σ q l) (u ++ v)) ≡ true
        go (inl e) ih = or_left (meets σ m (σ q l) (u ++ v)) e
        go (inr e) ih = or_right (m q l) (ih e)

    pub meets_right : (q : Q) (u v : List ℕ) → meets σ m (run σ q u) v ≡ true → meets σ m q (u ++ v) ≡ true
    meets_right q [] v h = h
    meets_right q (l ∷ u) v h = or_right (m q l) (meets_right (σ q l) u v h)

    -- the step that is met
    pub meets_split : (q : Q) (w : List ℕ) → meets σ m q w ≡ true → (u : List ℕ) × (l : ℕ) × (v : List ℕ) × (w ≡ u ++ l ∷ v) × (m (run σ q u) l ≡ true)
    meets_split q [] h = absurd (false≢true h)
    meets_split q (l ∷ w) h = go (or_cases (m q l) (meets σ m (σ q l) w) h) (λ k. meets_split (σ q l) w k)
      where
        go : (m q l ≡ true) ⊎ (meets σ m (σ q l) w ≡ true)
            → (meets σ m (σ q l) w ≡ true → (u : List ℕ) × (k : ℕ) × (v : List ℕ) × (w ≡ u ++ k ∷ v) × (m (run σ (σ q l) u) k ≡ true))
            → (u : List ℕ) × (k : ℕ) × (v : List ℕ) × (l ∷ w ≡ u ++ k ∷ v) × (m (run σ q u) k ≡ true)
        go (inl e) ih = ([], l, w, refl, e)
        go (inr e) ih = let t = ih e in (l ∷ t.0, t.1, t.2, ap (λ r. l ∷ r) t.3, t.4)

  -- a walk in other words
  pub walk_map : (E F : Q → ℕ → Type 0) → ((p : Q) (l : ℕ) → E p l → F p l) → (q : Q) (w : List ℕ) → Walk σ E q w → Walk σ F q w
  walk_map E F f q [] a = tt
  walk_map E F f q (l ∷ w) a = (f q l a.0, walk_map E F f (σ q l) w a.1)
