-- The pairs of states that are reached from one another.
use mathlib.Core.Path.{◌≡◌, refl, sym, ap, ap₂, ◌∙◌, subst, subst₂}
use mathlib.Core.Logic.{◌≢◌}
use mathlib.Core.Bool.{Bool, ◌&&◌, ◌||◌, and-true, and-false, or-false}
use mathlib.Core.List.{List}
use Prim.Native.Nat.{ℕ, zero, suc, ◌+◌, ◌*◌, ◌/◌, ◌%◌, ◌<◌}
use native.Mathlib.Decide.{ℕ_discrete}
use native.Mathlib.Omega.{arith}
use borrow.Author.Tests.{eq-eqb, ne_eqb}
use lib.Dec.{eqb}
use lib.ListN.{get_or, replicate, length-replicate}
use Rattle.meaning.specs.BitSet.{has}
use Rattle.meaning.specs.BitSetLaws.{has_zero}
use Rattle.bits.specs.Sets.{single}
use Rattle.reach.specs.Mutual.{Mutual}
use Rattle.reach.proofs.Stores.{Grown, has_alone}

zeros : (n i : ℕ) → ◌≡◌ {A = ℕ} (get_or (replicate n 0) i 0) 0
zeros zero i = refl
zeros (suc n) zero = refl
zeros (suc n) (suc i) = zeros n i

module _ {reached : List ℕ} where
  pub mutual_none : {rows : List ℕ} → rows ≡ replicate 16 0 → Mutual reached 0 rows
  mutual_none e = subst (Mutual reached 0) (sym e) (record {
    size = length-replicate {A = ℕ} 16 0;
    small = λ u. omega (arith, zeros 16 u);
    there = λ u v hv h. absurd (omega arith);
    none = λ u v hv h. ap (λ s. has s v) (zeros 16 u) ∙ has_zero v;
  })

  pub mutual_more : {i : ℕ} {rows new : List ℕ} {more : ℕ} {test : Bool} → Mutual reached i rows → Grown rows (i / 16) more test new
      → more ≡ single (i % 16) → test ≡ (has (get_or reached (i / 16) 0) (i % 16) && has (get_or reached (i % 16) 0) (i / 16)) → Mutual reached (i + 1) new
  mutual_more {i} {rows} {new} {more} {test} M g m t = record {
    size = g.size;
    small = λ x. small x (ℕ_discrete x (i / 16));
    there = λ x w hw h. there x w hw h (ℕ_discrete (x * 16 + w) i);
    none = λ x w hw h. other x w hw (omega arith) ∙ M.none x w hw (omega arith);
  }
    where
      small : (x : ℕ) → Dec (x ≡ i / 16) → get_or new x 0 < 65536
      small x (yes e) = subst (λ x. get_or new x 0 < 65536) (sym e) g.small
      small x (no e) = subst (λ s. s < 65536) (sym (g.rest x e)) (M.small x)

      in_row_u : (w : ℕ) → has (get_or new (i / 16) 0) w ≡ (has (get_or rows (i / 16) 0) w || (test && eqb w (i % 16)))
      in_row_u w = g.here w ∙ ap (λ b. has (get_or rows (i / 16) 0) w || (test && b)) (ap (λ s. has s w) m ∙ has_alone (i % 16) w (omega arith))

      other : (x w : ℕ) → w < 16 → x * 16 + w ≢ i → has (get_or new x 0) w ≡ has (get_or rows x 0) w
      other x w hw n = go (ℕ_discrete x (i / 16))
        where
          go : Dec (x ≡ i / 16) → has (get_or new x 0) w ≡ has (get_or rows x 0) w
          go (yes e) = subst (λ x. has (get_or new x 0) w ≡ has (get_or rows x 0) w) (sym e)
              (in_row_u w ∙ ap (λ b. has (get_or rows (i / 16) 0) w || (test && b)) (ne_eqb w (i % 16) (λ q. n (omega arith)))
              ∙ ap (λ b. has (get_or rows (i / 16) 0) w || b) (and-false test) ∙ or-false (has (get_or rows (i / 16) 0) w))
          go (no e) = ap (λ s. has s w) (g.rest x e)

      there : (x w : ℕ) → w < 16 → x * 16 + w < i + 1 → Dec (x * 16 + w ≡ i) → has (get_or new x 0) w ≡ (has (get_or reached x 0) w && has (get_or reached w 0) x)
      there x w hw h (yes e) =
          let ex : i / 16 ≡ x = omega arith in
          let ew : i % 16 ≡ w = omega arith in
          subst₂ (λ x w. has (get_or new x 0) w ≡ (has (get_or reached x 0) w && has (get_or reached w 0) x)) ex ew
          (in_row_u (i % 16) ∙ ap₂ (λ a b. a || (test && b)) (M.none (i / 16) (i % 16) (omega arith) (omega arith)) (eq-eqb (i % 16) (i % 16) refl) ∙ and-true test ∙ t)
      there x w hw h (no e) = other x w hw e ∙ M.there x w hw (omega arith)
