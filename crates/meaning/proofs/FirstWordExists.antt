-- Where two automata differ there is a first word that shows it: words are tried by total, prefix and letters.
use Rattle.std.specs.Prelude.{◌≡◌, refl, ◌⊎◌, List, ℕ, suc, ◌+◌, ◌-◌, ◌<◌, length}
use Rattle.std.proofs.Common.{sym, subst, inl, inr, ⊎_elim, arith}
use Rattle.std.proofs.Math.Decide.{dec_lt}
use Rattle.meaning.specs.Automata.{Aut}
use Rattle.meaning.specs.Agreement.{Agree, Comparable, Over}
use Rattle.meaning.specs.FirstWord.{Smaller, Precedes, FirstWord}
use Rattle.meaning.proofs.WordOrder.{precedes_by}
use Rattle.meaning.proofs.WordSearch.{search_below, search_smallest, AllHave, SmallestHas}
use Rattle.meaning.specs.Decision.{CycleAgrees, Difference, classify, not_both}
use Rattle.meaning.proofs.Decided.{distinguishes, agree_or_difference}
use Rattle.meaning.proofs.FirstWordLaws.{first_difference}

module _ {A B : Aut} (C : Comparable A B) where
  abbrev L : ℕ
  L = A.letters

  -- of the words with a prefix of p letters and a loop of q, none is a difference; or there is a first one
  abbrev NoneOf : ℕ → ℕ → Type 0
  NoneOf p q = (u v : List ℕ) → length u ≡ p → length v ≡ q → ¬ Difference A B u v

  abbrev FirstOf : ℕ → ℕ → Type 0
  FirstOf p q = (x : List ℕ) × (y : List ℕ) × (length x ≡ p) × (length y ≡ q) × Difference A B x y
      × ((u v : List ℕ) → length u ≡ p → length v ≡ q → Difference A B u v → Precedes x y u v)

  over : (u v : List ℕ) → Difference A B u v → Over A.letters u × Over A.letters v
  over u v d = let t = distinguishes C u v d in (t.over_x, t.over_y)

  first_of : (p q : ℕ) → NoneOf p q ⊎ FirstOf p q
  first_of p q = go (search_smallest L p (λ x ox. search_smallest L q (λ y oy. classify C x ox y oy)))
    where
      go : AllHave L p (λ x. AllHave L q (CycleAgrees A B x))
          ⊎ SmallestHas L p (λ x. AllHave L q (CycleAgrees A B x)) (λ x. SmallestHas L q (CycleAgrees A B x) (Difference A B x))
          → NoneOf p q ⊎ FirstOf p q
      go (inl a) = inl (λ u v hu hv d. not_both (a u (over u v d).0 hu v (over u v d).1 hv) d)
      go (inr (x, ox, hx, (y, oy, hy, d, first-y), first-x)) = inr (x, y, hx, hy, d, first)
        where
          first : (u v : List ℕ) → length u ≡ p → length v ≡ q → Difference A B u v → Precedes x y u v
          first u v hu hv e = precedes_by x y u v (omega arith) (λ t. omega arith) (λ s t. prefix (first-x u (over u v e).0 hu))
            where
              loop : x ≡ u → CycleAgrees A B x v ⊎ (Smaller y v ⊎ (y ≡ v)) → Smaller x u ⊎ ((x ≡ u) × (Smaller y v ⊎ (y ≡ v)))
              loop s (inl f) = absurd (not_both f (subst (λ w. Difference A B w v) (sym s) e))
              loop s (inr h) = inr (s, h)

              prefix : AllHave L q (CycleAgrees A B u) ⊎ (Smaller x u ⊎ (x ≡ u)) → Smaller x u ⊎ ((x ≡ u) × (Smaller y v ⊎ (y ≡ v)))
              prefix (inl a) = absurd (not_both (a v (over u v e).1 hv) e)
              prefix (inr (inl h)) = inl h
              prefix (inr (inr s)) = loop s (first-y v (over u v e).1 hv)

  -- of the words of t letters in all
  abbrev NoneOfTotal : ℕ → Type 0
  NoneOfTotal t = (u v : List ℕ) → length u + length v ≡ t → ¬ Difference A B u v

  abbrev FirstOfTotal : ℕ → Type 0
  FirstOfTotal t = (x : List ℕ) × (y : List ℕ) × (length x + length y ≡ t) × Difference A B x y
      × ((u v : List ℕ) → length u + length v ≡ t → Difference A B u v → Precedes x y u v)

  first_of_total : (t : ℕ) → NoneOfTotal t ⊎ FirstOfTotal t
  first_of_total t = go (search_below (suc t) (λ p h. first_of p (t - p)))
    where
      go : ((p : ℕ) → p < suc t → NoneOf p (t - p)) ⊎ ((p : ℕ) × (p < suc t) × FirstOf p (t - p) × ((j : ℕ) → j < p → NoneOf j (t - j)))
          → NoneOfTotal t ⊎ FirstOfTotal t
      go (inl a) = inl (λ u v e. a (length u) (omega arith) u v refl (omega arith))
      go (inr (p, h, (x, y, hx, hy, d, first), below)) = inr (x, y, omega arith, d, λ u v e d. by_prefix u v e d (dec_lt (length u) p) (dec_lt p (length u)))
        where
          by_prefix : (u v : List ℕ) → length u + length v ≡ t → Difference A B u v → Dec (length u < p) → Dec (p < length u) → Precedes x y u v
          by_prefix u v e d (yes g) b = absurd (below (length u) g u v refl (omega arith) d)
          by_prefix u v e d (no g) (yes b) = inr (omega arith, inl (omega arith))
          by_prefix u v e d (no g) (no b) = first u v (omega arith) (omega arith) d

  first_exists : (u v : List ℕ) → Difference A B u v → (x : List ℕ) × (y : List ℕ) × FirstWord A B x y
  first_exists u v d = go (search_below (suc (length u + length v)) (λ t h. first_of_total t))
    where
      go : ((t : ℕ) → t < suc (length u + length v) → NoneOfTotal t) ⊎ ((t : ℕ) × (t < suc (length u + length v)) × FirstOfTotal t × ((j : ℕ) → j < t → NoneOfTotal j))
          → (x : List ℕ) × (y : List ℕ) × FirstWord A B x y
      go (inl a) = absurd (a (length u + length v) (omega arith) u v refl d)
      go (inr (t, h, (x, y, e, d, first), below)) = (x, y, first_difference C x y d (λ r s g. by_total r s g (dec_lt (length r + length s) t) (dec_lt t (length r + length s))))
        where
          by_total : (r s : List ℕ) → Difference A B r s → Dec (length r + length s < t) → Dec (t < length r + length s) → Precedes x y r s
          by_total r s g (yes k) b = absurd (below (length r + length s) k r s refl g)
          by_total r s g (no k) (yes b) = inl (omega arith)
          by_total r s g (no k) (no b) = first r s (omega arith) g

  -- two automata agree, or there is the first word that shows that they do not
  pub agree_or_first : Agree A B ⊎ ((x : List ℕ) × (y : List ℕ) × FirstWord A B x y)
  agree_or_first = ⊎_elim (λ a. inl a) (λ (u, v, d). inr (first_exists u v d)) (agree_or_difference C)
