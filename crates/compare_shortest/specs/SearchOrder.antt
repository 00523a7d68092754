-- The order in which a breadth-first search finds words: by length, and at one length by the first difference.
use Rattle.std.specs.Prelude.{◌≡◌, ◌⊎◌, List, [], ◌∷◌, ◌++◌, ℕ, suc, ◌≤◌, ◌<◌, length}
use Rattle.std.proofs.Common.{sym, ap, ◌∙◌, subst, inl, inr, append-nil, le_of_eq, arith, length-append}
use Rattle.meaning.specs.FirstWord.{Smaller}
use Rattle.meaning.proofs.WordOrder.{smaller_append, smaller_front}

abbrev pub Earlier : List ℕ → List ℕ → Type 0
Earlier u v = (length u < length v) ⊎ ((length u ≡ length v) × Smaller u v)

abbrev pub NotLater : List ℕ → List ℕ → Type 0
NotLater u v = Earlier u v ⊎ (u ≡ v)

smaller_trans : (u v w : List ℕ) → Smaller u v → Smaller v w → Smaller u w
smaller_trans [] v w h g = h
smaller_trans (a ∷ u) [] w h g = absurd h
smaller_trans (a ∷ u) (b ∷ v) [] h g = absurd g
smaller_trans (a ∷ u) (b ∷ v) (c ∷ w) h g = go h g (λ p q. smaller_trans u v w p q)
  where
    go : (a < b) ⊎ ((a ≡ b) × Smaller u v) → (b < c) ⊎ ((b ≡ c) × Smaller v w) → (Smaller u v → Smaller v w → Smaller u w) → (a < c) ⊎ ((a ≡ c) × Smaller u w)
    go (inl p) (inl q) ih = inl (omega arith)
    go (inl p) (inr q) ih = inl (omega (arith, q.0))
    go (inr p) (inl q) ih = inl (omega (arith, p.0))
    go (inr p) (inr q) ih = inr (p.0 ∙ q.0, ih p.1 q.1)

pub earlier_trans : (u v w : List ℕ) → Earlier u v → NotLater v w → Earlier u w
earlier_trans u v w h (inr e) = subst (Earlier u) e h
earlier_trans u v w (inl h) (inl (inl g)) = inl (omega arith)
earlier_trans u v w (inl h) (inl (inr g)) = inl (omega (arith, g.0))
earlier_trans u v w (inr h) (inl (inl g)) = inl (omega (arith, h.0))
earlier_trans u v w (inr h) (inl (inr g)) = inr (h.0 ∙ g.0, smaller_trans u v w h.1 g.1)

pub earlier_length : (u v : List ℕ) → Earlier u v → length u ≤ length v
earlier_length u v (inl h) = omega arith
earlier_length u v (inr h) = le_of_eq h.0

pub not_later_length : (u v : List ℕ) → NotLater u v → length u ≤ length v
not_later_length u v (inl h) = earlier_length u v h
not_later_length u v (inr e) = le_of_eq (ap length e)

-- of two words of one length the earlier one is the smaller
pub earlier_smaller : (u v : List ℕ) → length u ≡ length v → Earlier u v → Smaller u v
earlier_smaller u v e (inl h) = absurd (omega arith)
earlier_smaller u v e (inr h) = h.1

pub not_later_smaller : (u v : List ℕ) → length u ≡ length v → NotLater u v → Smaller u v ⊎ (u ≡ v)
not_later_smaller u v e (inl h) = inl (earlier_smaller u v e h)
not_later_smaller u v e (inr h) = inr h

-- ---- one letter more
length_snoc : (u : List ℕ) (b : ℕ) → length (u ++ (b ∷ [])) ≡ suc (length u)
length_snoc u b = length-append u (b ∷ []) ∙ omega arith

pub earlier_snoc : (u v : List ℕ) (b m : ℕ) → Earlier u v → Earlier (u ++ (b ∷ [])) (v ++ (m ∷ []))
earlier_snoc u v b m (inl h) = inl (omega (arith, length_snoc u b, length_snoc v m))
earlier_snoc u v b m (inr h) = inr (omega (arith, h.0, length_snoc u b, length_snoc v m), smaller_append u v (b ∷ []) (m ∷ []) h.1)

pub last_earlier : (u : List ℕ) (b m : ℕ) → b < m → Earlier (u ++ (b ∷ [])) (u ++ (m ∷ []))
last_earlier u b m h = inr (omega (arith, length_snoc u b, length_snoc u m), smaller_front u (b ∷ []) (m ∷ []) (inl h))

pub not_later_snoc : (u v : List ℕ) (m : ℕ) → NotLater u v → NotLater (u ++ (m ∷ [])) (v ++ (m ∷ []))
not_later_snoc u v m (inl h) = inl (earlier_snoc u v m m h)
not_later_snoc u v m (inr e) = inr (ap (λ w. w ++ (m ∷ [])) e)

pub prefix_not_later : (u w : List ℕ) → NotLater u (u ++ w)
prefix_not_later u [] = inr (sym (append-nil u))
prefix_not_later u (m ∷ w) = inl (inl (omega (arith, length-append u (m ∷ w))))
