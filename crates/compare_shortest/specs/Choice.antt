-- The choice among the places of the outer search: the first place with the least total, of the word that leads there and the shortest loop there.
use Rattle.std.specs.Prelude.{◌≡◌, refl, List, ℕ, ◌+◌, ◌≤◌, ◌<◌, length}
use Rattle.std.proofs.Common.{sym, subst, arith, below_more}
use Rattle.std.proofs.Math.Decide.{ℕ_discrete}
use Rattle.compare_shortest.specs.Graph.{at, HitLoop}
use Rattle.compare_shortest.specs.Packing.{node_of, depth_of}
use Rattle.compare_shortest.specs.ClosestLoop.{LoopLength}

-- of the first i places b is the best, with the total t, as far as loops of at most `bound` letters go; or n, with the total that stands for none
pub record Choosing (D H places : List ℕ) (L bound none n i b t : ℕ) : Type 0 where
  pub high : b ≤ n
  pub start : b ≡ n → t ≡ none
  pub found : b < n → (y : List ℕ) × HitLoop D H L (node_of (at places b)) y × (length y ≤ bound) × (depth_of (at places b) + length y ≡ t)
  pub least : (k : ℕ) → k < i → (y : List ℕ) → HitLoop D H L (node_of (at places k)) y → length y ≤ bound → t ≤ depth_of (at places k) + length y
  pub first : b < n → (k : ℕ) → k < b → (y : List ℕ) → HitLoop D H L (node_of (at places k)) y → length y ≤ bound → t < depth_of (at places k) + length y

-- r is how long a loop at the depth d may be to make less than t in all, and at most `bound`
pub record Room (t d bound r : ℕ) : Type 0 where
  pub fits : r ≤ bound
  pub less : (l : ℕ) → 0 < l → l ≤ r → d + l < t
  pub more : (m : ℕ) → m ≤ bound → r < m → t ≤ d + m

-- the place i, at the depth d and with a loop of l letters, takes the place of b; where l is 0 it does not
pub record Better (b t i d l place total : ℕ) : Type 0 where
  pub kept : l ≡ 0 → (place ≡ b) × (total ≡ t)
  pub taken : (l ≡ 0 → ⊥) → (place ≡ i) × (total ≡ d + l)

pub choosing_none : {D H places : List ℕ} {L bound none n : ℕ} → Choosing D H places L bound none n 0 n none
choosing_none = record {
  high = omega arith;
  start = λ e. refl;
  found = λ h. absurd (omega arith);
  least = λ k h. absurd (omega arith);
  first = λ h. absurd (omega arith);
}

module _ {D H places : List ℕ} {L bound none n i b t v d r l : ℕ} (g : i < n) (C : Choosing D H places L bound none n i b t)
    (ev : v ≡ node_of (at places i)) (ed : d ≡ depth_of (at places i)) (R : Room t d bound r) (X : LoopLength D H L v r l) where
  abbrev Least : ℕ → ℕ → Type 0
  Least s k = (y : List ℕ) → HitLoop D H L (node_of (at places k)) y → length y ≤ bound → s ≤ depth_of (at places k) + length y

  at_node : (y : List ℕ) → HitLoop D H L (node_of (at places i)) y → HitLoop D H L v y
  at_node y s = subst (λ c. HitLoop D H L c y) (sym ev) s

  keep : l ≡ 0 → Choosing D H places L bound none n (i + 1) b t
  keep z = record {
    high = C.high;
    start = C.start;
    found = C.found;
    least = below_more (Least t) i C.least (λ y s h. omega (arith, R.more (length y) h (X.none z y (at_node y s))));
    first = C.first;
  }

  take : 0 < l → Choosing D H places L bound none n (i + 1) i (d + l)
  take p =
      let (y, s, e) = X.found p in
      let m = R.less l p X.fits in
      record {
        high = omega arith;
        start = λ z. absurd (omega arith);
        found = λ h. (y, subst (λ c. HitLoop D H L c y) ev s, omega (arith, X.fits, R.fits), omega arith);
        least = below_more (Least (d + l)) i (λ k h w q b. omega (arith, C.least k h w q b)) (λ w q b. omega (arith, X.least w (at_node w q)));
        first = λ h k z w q b. omega (arith, C.least k z w q b);
      }

  pub choosing_more : {place total : ℕ} → Better b t i d l place total → Choosing D H places L bound none n (i + 1) place total
  choosing_more {place} {total} B = go (ℕ_discrete l 0)
    where
      go : Dec (l ≡ 0) → Choosing D H places L bound none n (i + 1) place total
      go (yes z) = let (p, q) = B.kept z in rw (p, q) (keep z)
      go (no z) = let (p, q) = B.taken z in rw (p, q) (take (omega arith))

pub chosen : {D H places : List ℕ} {L bound none n i b t : ℕ} → Choosing D H places L bound none n i b t → i ≤ n → n ≤ i → Choosing D H places L bound none n n b t
chosen {D} {H} {places} {L} {bound} {none} {n} {i} {b} {t} C h g = let e : i ≡ n = omega arith in subst (λ k. Choosing D H places L bound none n k b t) e C
