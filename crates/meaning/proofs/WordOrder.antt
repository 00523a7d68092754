-- The order of words: by letters (`Smaller`), and of lasso words by total, prefix and letters (`Precedes`).
use Rattle.std.specs.Prelude.{◌≡◌, refl, ◌⊎◌, List, [], ◌∷◌, ◌++◌, ℕ, ◌+◌, ◌≤◌, ◌<◌, length, take, drop}
use Rattle.std.proofs.Common.{sym, ap, ap₂, ◌∙◌, subst, inl, inr, arith, take_at, drop_at}
use Rattle.std.proofs.Math.Decide.{dec_lt}
use Rattle.meaning.specs.FirstWord.{Smaller, Precedes}

-- ---- by letters

pub smaller_append : (u v s t : List ℕ) → Smaller u v → Smaller (u ++ s) (v ++ t)
smaller_append [] v s t h = absurd h
smaller_append (a ∷ u) [] s t h = absurd h
smaller_append (a ∷ u) (b ∷ v) s t (inl h) = inl h
smaller_append (a ∷ u) (b ∷ v) s t (inr h) = inr (h.0, smaller_append u v s t h.1)

pub smaller_front : (u s t : List ℕ) → Smaller s t → Smaller (u ++ s) (u ++ t)
smaller_front [] s t h = h
smaller_front (a ∷ u) s t h = inr (refl, smaller_front u s t h)

-- of two words at most one is smaller, and no word is smaller than itself
one_smaller : (u v : List ℕ) → Smaller u v → ¬ Smaller v u
one_smaller [] v h g = h
one_smaller (a ∷ u) [] h g = h
one_smaller (a ∷ u) (b ∷ v) (inl h) (inl g) = omega arith
one_smaller (a ∷ u) (b ∷ v) (inl h) (inr g) = omega (arith, g.0)
one_smaller (a ∷ u) (b ∷ v) (inr h) (inl g) = omega (arith, h.0)
one_smaller (a ∷ u) (b ∷ v) (inr h) (inr g) = one_smaller u v h.1 g.1

-- ---- by total, prefix and letters

pub precedes_total : (x y u v : List ℕ) → Precedes x y u v → length x + length y ≤ length u + length v
precedes_total x y u v (inl h) = omega arith
precedes_total x y u v (inr h) = omega (arith, h.0)

-- x before u, and y before v where x and u are the same, puts the first word before the second
pub precedes_by : (x y u v : List ℕ) → length x + length y ≤ length u + length v → (length x + length y ≡ length u + length v → length x ≤ length u)
    → (length x ≡ length u → length y ≡ length v → Smaller x u ⊎ ((x ≡ u) × (Smaller y v ⊎ (y ≡ v)))) → Precedes x y u v
precedes_by x y u v total prefix letters = go (dec_lt (length x + length y) (length u + length v)) (dec_lt (length x) (length u))
  where
    by_letters : Smaller x u ⊎ ((x ≡ u) × (Smaller y v ⊎ (y ≡ v))) → Smaller (x ++ y) (u ++ v) ⊎ (x ++ y ≡ u ++ v)
    by_letters (inl h) = inl (smaller_append x u y v h)
    by_letters (inr (e, inl h)) = inl (subst (λ w. Smaller (x ++ y) (w ++ v)) e (smaller_front x y v h))
    by_letters (inr (e, inr h)) = inr (ap₂ ◌++◌ e h)

    go : Dec (length x + length y < length u + length v) → Dec (length x < length u) → Precedes x y u v
    go (yes h) d = inl h
    go (no h) (yes d) = inr (omega arith, inl d)
    go (no h) (no d) =
        let sum : length x + length y ≡ length u + length v = omega arith in
        let p : length x ≡ length u = omega (arith, prefix sum) in
        inr (sum, inr (p, by_letters (letters p (omega arith))))

-- where two words are written alike and their prefixes have one length, they are one word
split : (x y u v : List ℕ) → length x ≡ length u → x ++ y ≡ u ++ v → (x ≡ u) × (y ≡ v)
split x y u v h e = (
  sym (take_at x y (length u) h) ∙ ap (take (length u)) e ∙ take_at u v (length u) refl,
  sym (drop_at x y (length u) h) ∙ ap (drop (length u)) e ∙ drop_at u v (length u) refl,
)

-- two words that precede each other are one word
pub precedes_once : (x y u v : List ℕ) → Precedes x y u v → Precedes u v x y → (x ≡ u) × (y ≡ v)
precedes_once x y u v (inl h) q = absurd (omega (arith, precedes_total u v x y q))
precedes_once x y u v (inr (e, p)) (inl h) = absurd (omega arith)
precedes_once x y u v (inr (e, inl p)) (inr (f, inl q)) = absurd (omega arith)
precedes_once x y u v (inr (e, inl p)) (inr (f, inr q)) = absurd (omega (arith, q.0))
precedes_once x y u v (inr (e, inr p)) (inr (f, inl q)) = absurd (omega (arith, p.0))
precedes_once x y u v (inr (e, inr (p, inr h))) (inr (f, inr q)) = split x y u v p h
precedes_once x y u v (inr (e, inr (p, inl h))) (inr (f, inr (q, inl g))) = absurd (one_smaller (x ++ y) (u ++ v) h g)
precedes_once x y u v (inr (e, inr (p, inl h))) (inr (f, inr (q, inr g))) = split x y u v p (sym g)
