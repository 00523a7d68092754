-- Laws of writing: pieces by counting, and into the unwritten rest.
use mathlib.Core.Path.{◌≡◌, refl, sym, subst}
use mathlib.Core.List.{List, ◌++◌}
use Prim.Native.Nat.{ℕ, zero, suc, ◌+◌, ◌-◌, ◌≤◌, ◌<◌}
use native.Mathlib.Numerals.{add-one}
use native.Mathlib.Nat.{not-suc-le-zero}
use native.Mathlib.Decide.{ℕ_discrete}
use native.Mathlib.Omega.{arith}
use lib.ListN.{length, take, drop, length-append, length-take, length-drop}
use Rattle.meaning.specs.Counting.{each}
use Rattle.decimal.specs.Wrote.{Wrote}
use Rattle.decimal.specs.Writing.{wrote_then, wrote_part, wrote_length}

-- ---- pieces by counting

module _ (f : ℕ → List ℕ) where
  each_length_le : (i n : ℕ) → i < n → length (each i f) + length (f i) ≤ length (each n f)
  each_length_le i zero h = absurd (not-suc-le-zero h)
  each_length_le i (suc n) h = go (ℕ_discrete i n) (λ g. each_length_le i n g)
    where
      go : Dec (i ≡ n) → (i < n → length (each i f) + length (f i) ≤ length (each n f)) → length (each i f) + length (f i) ≤ length (each (suc n) f)
      go (yes e) ih = subst (λ k. length (each k f) + length (f k) ≤ length (each (suc n) f)) (sym e) (omega (arith, length-append (each n f) (f n)))
      go (no e) ih = omega (arith, length-append (each n f) (f n), ih (omega arith))

  module _ (i : ℕ) {d₀ : List ℕ} {at : ℕ} {d : List ℕ} {r : ℕ} where
    -- i pieces and one more
    pub each_more : {e : List ℕ} {s : ℕ} → Wrote d₀ at (each i f) d r → Wrote d r (f i) e s → Wrote d₀ at (each (i + 1) f) e s
    each_more {e} {s} p q = subst (λ k. Wrote d₀ at (each k f) e s) (sym (add-one i)) (wrote_then p q)

    -- where there is room for n pieces, there is room for the next
    pub each_room : (n : ℕ) → Wrote d₀ at (each i f) d r → i < n → at + length (each n f) ≤ length d₀ → r + length (f i) ≤ length d
    each_room n p h g = omega (arith, p.next, wrote_length p, each_length_le i n h)

    pub each_whole : (n : ℕ) → i ≡ n → Wrote d₀ at (each i f) d r → Wrote d₀ at (each n f) d r
    each_whole n e p = subst (λ k. Wrote d₀ at (each k f) d r) e p

-- ---- into the unwritten rest

module _ (d : List ℕ) (at : ℕ) where
  pub part_le : length (take (length d - at) (drop at d)) ≤ length d - at
  part_le = simp (length-take, length-drop) (omega arith)

  pub part_room : (n : ℕ) → at + n ≤ length d → n ≤ length (take (length d - at) (drop at d))
  part_room n h = simp (length-take, length-drop) (omega arith)

module _ {d : List ℕ} {at : ℕ} {v e : List ℕ} {r : ℕ} (p : Wrote d at v e r) where
  -- what is written at the start of the rest stands after what is written already
  pub wrote_rest : {w f : List ℕ} {s : ℕ} → Wrote (take (length e - r) (drop r e)) 0 w f s
      → Wrote d at (v ++ w) (take r e ++ (f ++ drop (length e - r) (drop r e))) (r + s)
  wrote_rest q = wrote_then p (wrote_part e r (length e - r) (omega (arith, p.room, wrote_length p)) refl q)

  pub rest_room : (n : ℕ) → at + length v + n ≤ length d → n ≤ length (take (length e - r) (drop r e))
  rest_room n h = part_room e r n (omega (arith, p.next, wrote_length p))

-- ---- a piece by another name

pub named : {u w : List ℕ} {d : List ℕ} {at : ℕ} {e : List ℕ} {r : ℕ} → u ≡ w → Wrote d at u e r → Wrote d at w e r
named {d = d} {at = at} {e = e} {r = r} q p = subst (λ x. Wrote d at x e r) q p
