-- A search for the smallest word of n letters, and through all the words of at most n letters.
use Rattle.std.specs.Prelude.{◌≡◌, refl, ◌⊎◌, List, [], ◌∷◌, ℕ, zero, suc, ◌≤◌, ◌<◌, length}
use Rattle.std.proofs.Common.{sym, ap₂, subst, inl, inr, not-suc-le-zero, arith}
use Rattle.std.proofs.Math.Decide.{ℕ_discrete, dec_lt}
use Rattle.meaning.specs.Agreement.{Over}
use Rattle.meaning.specs.FirstWord.{Smaller}

-- where each number below n has X or Y, all have X, or one has Y and those below it have X
pub search_below : (n : ℕ) {X Y : ℕ → Type 0} → ((l : ℕ) → l < n → X l ⊎ Y l)
    → ((l : ℕ) → l < n → X l) ⊎ ((l : ℕ) × (l < n) × Y l × ((j : ℕ) → j < l → X j))
search_below zero f = inl (λ l h. absurd (not-suc-le-zero h))
search_below (suc n) {X} {Y} f = go (search_below n (λ l h. f l (omega arith))) (f n (omega arith))
  where
    last : ((l : ℕ) → l < n → X l) → X n → (l : ℕ) → l < suc n → Dec (l ≡ n) → X l
    last a x l h (yes e) = subst X (sym e) x
    last a x l h (no e) = a l (omega arith)

    go : ((l : ℕ) → l < n → X l) ⊎ ((l : ℕ) × (l < n) × Y l × ((j : ℕ) → j < l → X j)) → X n ⊎ Y n
        → ((l : ℕ) → l < suc n → X l) ⊎ ((l : ℕ) × (l < suc n) × Y l × ((j : ℕ) → j < l → X j))
    go (inr (l, h, y, below)) r = inr (l, omega arith, y, below)
    go (inl a) (inr y) = inr (n, omega arith, y, a)
    go (inl a) (inl x) = inl (λ l h. last a x l h (ℕ_discrete l n))

-- ---- the words of n letters below k

abbrev pub AllHave : ℕ → ℕ → (List ℕ → Type 0) → Type 0
AllHave k n X = (w : List ℕ) → Over k w → length w ≡ n → X w

-- one has Y, and each that is smaller has X
abbrev pub SmallestHas : ℕ → ℕ → (List ℕ → Type 0) → (List ℕ → Type 0) → Type 0
SmallestHas k n X Y = (w : List ℕ) × Over k w × (length w ≡ n) × Y w × ((u : List ℕ) → Over k u → length u ≡ n → X u ⊎ (Smaller w u ⊎ (w ≡ u)))

pub search_smallest : (k n : ℕ) {X Y : List ℕ → Type 0} → ((w : List ℕ) → Over k w → X w ⊎ Y w) → AllHave k n X ⊎ SmallestHas k n X Y
search_smallest k zero {X} {Y} f = go (f [] tt)
  where
    go : X [] ⊎ Y [] → AllHave k 0 X ⊎ SmallestHas k 0 X Y
    go (inl x) = inl none
      where
        none : (w : List ℕ) → Over k w → length w ≡ 0 → X w
        none [] o h = x
        none (l ∷ w) o h = absurd (omega arith)
    go (inr y) = inr ([], tt, refl, y, only)
      where
        only : (u : List ℕ) → Over k u → length u ≡ 0 → X u ⊎ (Smaller [] u ⊎ ([] ≡ u))
        only [] o h = inr (inr refl)
        only (l ∷ u) o h = absurd (omega arith)
search_smallest k (suc n) {X} {Y} f = go (search_below k (λ l h. search_smallest k n {X = λ w. X (l ∷ w)} {Y = λ w. Y (l ∷ w)} (λ w o. f (l ∷ w) (h, o))))
  where
    go : ((l : ℕ) → l < k → AllHave k n (λ w. X (l ∷ w)))
        ⊎ ((l : ℕ) × (l < k) × SmallestHas k n (λ w. X (l ∷ w)) (λ w. Y (l ∷ w)) × ((j : ℕ) → j < l → AllHave k n (λ w. X (j ∷ w))))
        → AllHave k (suc n) X ⊎ SmallestHas k (suc n) X Y
    go (inl a) = inl none
      where
        none : (w : List ℕ) → Over k w → length w ≡ suc n → X w
        none [] o h = absurd (omega arith)
        none (l ∷ w) o h = a l o.0 w o.1 (omega arith)
    go (inr (l, h, (w, o, e, y, smallest), below)) = inr (l ∷ w, (h, o), omega arith, y, first)
      where
        same : (j : ℕ) (u : List ℕ) → j ≡ l → X (l ∷ u) ⊎ (Smaller w u ⊎ (w ≡ u)) → X (j ∷ u) ⊎ (Smaller (l ∷ w) (j ∷ u) ⊎ (l ∷ w ≡ j ∷ u))
        same j u p (inl x) = inl (subst (λ i. X (i ∷ u)) (sym p) x)
        same j u p (inr (inl s)) = inr (inl (inr (sym p, s)))
        same j u p (inr (inr q)) = inr (inr (ap₂ ◌∷◌ (sym p) q))

        first : (u : List ℕ) → Over k u → length u ≡ suc n → X u ⊎ (Smaller (l ∷ w) u ⊎ (l ∷ w ≡ u))
        first [] o g = absurd (omega arith)
        first (j ∷ u) o g = by_letter (dec_lt j l) (dec_lt l j)
          where
            by_letter : Dec (j < l) → Dec (l < j) → X (j ∷ u) ⊎ (Smaller (l ∷ w) (j ∷ u) ⊎ (l ∷ w ≡ j ∷ u))
            by_letter (yes p) d = inl (below j p u o.1 (omega arith))
            by_letter (no p) (yes q) = inr (inl (inl q))
            by_letter (no p) (no q) = same j u (omega arith) (smallest u o.1 (omega arith))

-- ---- the words of at most n letters below k: all have X, or one has Y

pub search_words : (k n : ℕ) {X Y : List ℕ → Type 0} → ((w : List ℕ) → Over k w → X w ⊎ Y w)
    → ((w : List ℕ) → Over k w → length w ≤ n → X w) ⊎ ((w : List ℕ) × Over k w × Y w)
search_words k n {X} {Y} f = go (search_below (suc n) (λ i h. search_smallest k i f))
  where
    go : ((i : ℕ) → i < suc n → AllHave k i X) ⊎ ((i : ℕ) × (i < suc n) × SmallestHas k i X Y × ((j : ℕ) → j < i → AllHave k j X))
        → ((w : List ℕ) → Over k w → length w ≤ n → X w) ⊎ ((w : List ℕ) × Over k w × Y w)
    go (inl a) = inl (λ w o h. a (length w) (omega arith) w o refl)
    go (inr (i, h, (w, o, e, y, smallest), below)) = inr (w, o, y)
