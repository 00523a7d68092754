-- Texts in slots: none is there, one more is kept, and one is read back.
use mathlib.Core.Path.{◌≡◌, refl, sym, ap, ◌∙◌, subst, subst₂}
use mathlib.Core.Logic.{◌⊎◌, inl, inr, ◌≢◌}
use mathlib.Core.Bool.{Bool, true, false}
use mathlib.Core.List.{List}
use Prim.Native.Nat.{ℕ, ◌+◌, ◌*◌, ◌/◌, ◌%◌, ◌≤◌, ◌<◌}
use native.Mathlib.Nat.{mul-le-mul}
use borrow.Author.Tests.{ltb-true, ltb-false}
use lib.Dec.{ltb}
use native.Mathlib.Omega.{arith}
use lib.Arith.{digits_div, digits_mod}
use lib.ListN.{length, get_or, set, take, drop, replicate, length-set, length-replicate, get_or-replicate}
use lib.Seq.{get_or-set_same, get_or-set_other}
use Rattle.decimal.specs.Wrote.{Wrote, WroteIfRoom}
use Rattle.decimal.specs.Writing.{wrote_before, wrote_here, wrote_after}
use Rattle.std.specs.Prelude.{Option, Some}
use Rattle.clause_text.specs.declared.keeping.Store.{Store}
use Rattle.clause_text.specs.Kept.{Slot, Kept, Found, Looked}

-- a slot has a text, or none
abbrev Holds : (ℕ → ℕ → List ℕ) → ℕ → {count total : ℕ} → Store count total → ℕ → Type 0
Holds text_of width s k = (get_or s.sizes k 0 ≡ 0) ⊎ Slot text_of width s k (get_or s.sizes k 0 / 128)

module _ {text_of : ℕ → ℕ → List ℕ} {width count total : ℕ} where
  pub kept_none : {s : Store count total} → s.sizes ≡ replicate count 0 → Kept text_of width s
  kept_none none = record {
    slots = ap length none ∙ length-replicate {A = ℕ} count 0;
    each = λ k h. inl (ap (λ l. get_or l k 0) none ∙ get_or-replicate count k 0 0 h);
  }

  -- a slot that has a text of that name
  pub kept_found : {s : Store count total} {k name r : ℕ} {o : Option ℕ} → Kept text_of width s → k < count → 0 < name → o ≡ Some r → Looked s.sizes k name o
      → Found text_of width s k name r
  kept_found {s} {k} {name} {r} kept h some q looked = go (subst (Looked s.sizes k name) q looked) (kept.each k h)
    where
      go : Looked s.sizes k name (Some r) → Holds text_of width s k → Found text_of width s k name r
      go (is, l) (inl e) = absurd (omega (arith, e, is, some))
      go (is, l) (inr o) =
          let slot = subst (Slot text_of width s k) is o in
          record { all = kept; slot = slot; size = l ∙ slot.size }

  module _ {s f : Store count total} {k name r : ℕ} where
    pub kept_more : Kept text_of width s → k < count → width < 128 → length (text_of k name) ≤ width → f.sizes ≡ set s.sizes k (name * 128 + r)
        → Wrote s.bytes (k * width) (text_of k name) f.bytes (k * width + r) → Found text_of width f k name r
    kept_more kept h wide fits is w = record {
      all = record { slots = ap length is ∙ length-set s.sizes k (name * 128 + r) ∙ kept.slots; each = all };
      slot = here;
      size = size_is;
    }
      where
        size_is : r ≡ length (text_of k name)
        size_is = omega (arith, w.next)

        low : r < 128
        low = omega (arith, size_is, fits, wide)

        entered : get_or f.sizes k 0 ≡ (name * 128 + r)
        entered = ap (λ l. get_or l k 0) is ∙ get_or-set_same s.sizes k (name * 128 + r) 0 (omega (arith, kept.slots))

        name_is : get_or f.sizes k 0 / 128 ≡ name
        name_is = ap (λ e. e / 128) entered ∙ digits_div name low

        here : Slot text_of width f k name
        here = record {
          named = name_is;
          size = ap (λ e. e % 128) entered ∙ digits_mod name low ∙ size_is;
          fits = fits;
          text = wrote_here w;
        }

        same : (j : ℕ) → j ≢ k → get_or f.sizes j 0 ≡ get_or s.sizes j 0
        same j n = ap (λ l. get_or l j 0) is ∙ get_or-set_other s.sizes k j (name * 128 + r) 0 n

        -- the bytes of another slot, before this one or after it
        before : (j n : ℕ) (o : Slot text_of width s j n) → j < k → take (length (text_of j n)) (drop (j * width) f.bytes) ≡ text_of j n
        before j n o g = wrote_before w (j * width) (length (text_of j n)) (omega (arith, o.fits, mul-le-mul {n₁ = j + 1} {m₁ = width} {n₂ = k} {m₂ = width} (omega arith) (omega arith))) ∙ o.text

        after : (j n : ℕ) (o : Slot text_of width s j n) → k < j → take (length (text_of j n)) (drop (j * width) f.bytes) ≡ text_of j n
        after j n o g = wrote_after w (j * width) (length (text_of j n)) (omega (arith, size_is, fits, mul-le-mul {n₁ = k + 1} {m₁ = width} {n₂ = j} {m₂ = width} (omega arith) (omega arith))) ∙ o.text

        still : (j n : ℕ) (o : Slot text_of width s j n) → j ≢ k → take (length (text_of j n)) (drop (j * width) f.bytes) ≡ text_of j n → Slot text_of width f j n
        still j n o d t = record { named = ap (λ e. e / 128) (same j d) ∙ o.named; size = ap (λ e. e % 128) (same j d) ∙ o.size; fits = o.fits; text = t }

        other : (j : ℕ) → j ≢ k → ((n : ℕ) (o : Slot text_of width s j n) → take (length (text_of j n)) (drop (j * width) f.bytes) ≡ text_of j n)
            → Holds text_of width s j → Holds text_of width f j
        other j d t (inl e) = inl (same j d ∙ e)
        other j d t (inr o) = inr (subst (Slot text_of width f j) (ap (λ e. e / 128) (sym (same j d))) (still j _ o d (t _ o)))

        all : (j : ℕ) → j < count → Holds text_of width f j
        all j l = go (ltb j k) (ltb k j) refl refl
          where
            go : (a b : Bool) → ltb j k ≡ a → ltb k j ≡ b → Holds text_of width f j
            go true b e g = other j (λ q. omega (arith, ltb-true j k e)) (λ n o. before j n o (ltb-true j k e)) (kept.each j l)
            go false true e g = other j (λ q. omega (arith, ltb-true k j g)) (λ n o. after j n o (ltb-true k j g)) (kept.each j l)
            go false false e g =
                let same-slot : k ≡ j = omega (arith, ltb-false j k e, ltb-false k j g) in
                subst (Holds text_of width f) same-slot (inr (subst (Slot text_of width f k) (sym name_is) here))

  -- ---- a slot that has the text t

  module _ {k name : ℕ} {t : List ℕ} (is : text_of k name ≡ t) where
    -- it was spelled there, and entered
    pub text_kept : {s f : Store count total} {b : List ℕ} {r : ℕ} → Kept text_of width s → k < count → width < 128 → length t ≤ width → Wrote s.bytes (k * width) t b (k * width + r)
        → f.sizes ≡ set s.sizes k (name * 128 + r) → f.bytes ≡ b → Found text_of width f k name r
    text_kept {s} {f} {b} {r} kept h wide fits w sizes bytes =
        kept_more kept h wide (omega (arith, ap length is)) sizes
        (subst₂ (λ t b. Wrote s.bytes (k * width) t b (k * width + r)) (sym is) (sym bytes) w)

    module _ {s : Store count total} {r : ℕ} (found : Found text_of width s k name r) where
      pub text_copied : {d e : List ℕ} {at end : ℕ} → WroteIfRoom d at (take r (drop (k * width) s.bytes)) e end → at + length t ≤ length d → Wrote d at t e end
      text_copied {d} {e} {at} {end} w h =
          (subst (λ t. WroteIfRoom d at t e end) (ap (λ n. take n (drop (k * width) s.bytes)) found.size ∙ found.slot.text ∙ is) w).roomy h
