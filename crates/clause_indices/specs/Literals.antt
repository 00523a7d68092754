-- Literals written one after another into a buffer.
use Rattle.std.specs.Prelude.{◌≡◌, refl, ◌≢◌, List, [], ◌∷◌, ◌++◌, ℕ, ◌+◌, ◌/◌, ◌%◌, ◌^◌, ◌≤◌, ◌<◌, ℤ, pos, neg_ℤ, length, set}
use Rattle.std.proofs.Common.{sym, ap, ◌∙◌, subst, subst₂, mul-one, add-one, arith, eq-eqb, ne_eqb, length-set, to_z, of_z}
use Rattle.std.specs.Int.Signed.{mag}
use Rattle.std.specs.Int.{w32}
use Rattle.std.proofs.lemmas.Int.{to_z-of_z}
use Rattle.meaning.specs.BitSetLaws.{has_test}
use Rattle.encoding.specs.Variables.{Var, mark}
use Rattle.encoding.specs.Clauses.{each}
use Rattle.encoding.specs.Loops.{each_length}
use Rattle.decimal.specs.Wrote.{Wrote}
use Rattle.decimal.specs.Writing.{wrote_none, wrote_one, wrote_then, wrote_length}
use Rattle.clause_sizes.specs.declared.Sizes.{Sizes}
use Rattle.clause_sizes.specs.Sizes.{Fitting}
use Rattle.clause_sizes.specs.Numbers.{number_of, Numbered}
use Rattle.clause_literals.specs.Literals.{LiteralIfAny}
use Rattle.clause_indices.specs.declared.Indices.{Indices}
use Rattle.clause_indices.specs.Indices.{mark_literal, marks_of, premise_of}
use Rattle.clause_indices.specs.Indices.{clause_room}

-- a signed number is what its bits say
pub stored : {z : ℤ} → mag z < 2 ^ 31 → to_z w32 (of_z w32 z) ≡ z
stored {z} h = to_z-of_z w32 z (record { sfits = h })

-- the literals of a variable that the file has
pub positive_of : {z : Sizes} {x : Var} {k : ℕ} {r : ℤ} → Numbered z x k → LiteralIfAny k (pos k) r → r ≡ pos (number_of z x)
positive_of n l = l.there (omega (arith, n.small)) ∙ ap pos n.is

pub negative_of : {z : Sizes} {x : Var} {k : ℕ} {r : ℤ} → Numbered z x k → LiteralIfAny k (neg_ℤ (pos k)) r → r ≡ neg_ℤ (pos (number_of z x))
negative_of n l = l.there (omega (arith, n.small)) ∙ ap (λ k. neg_ℤ (pos k)) n.is

-- ---- a loop that writes one element each turn

pub wrote_each_none : {A : Type 0} (d : List A) (at : ℕ) (f : ℕ → List A) → at ≤ length d → Wrote d at (each 0 f) d at
unfolding each
wrote_each_none d at f h = wrote_none d at h

pub wrote_each_more : {A : Type 0} {d e : List A} {at to s : ℕ} {x : A} (i : ℕ) (g : ℕ → A) → Wrote d at (each i (λ j. g j ∷ [])) e to → to < length d → s ≡ to + 1 → x ≡ g i
    → Wrote d at (each (i + 1) (λ j. g j ∷ [])) (set e to x) s
unfolding each
wrote_each_more {d} {e} {at} {to} {x} i g w h n q =
    subst₂ (λ l. Wrote d at l (set e to x)) (ap (λ y. each i (λ j. g j ∷ []) ++ (y ∷ [])) q ∙ ap (λ k. each k (λ j. g j ∷ [])) (sym (add-one i))) (sym n)
    (wrote_then w (wrote_one e to x (omega (arith, wrote_length w))))

-- ---- one, two, three elements from the start on

pub wrote_first : {A : Type 0} {d : List A} {x a : A} → 1 ≤ length d → x ≡ a → Wrote d 0 (a ∷ []) (set d 0 x) 1
wrote_first {d} {x} h e = subst (λ y. Wrote d 0 (y ∷ []) (set d 0 x) 1) e (wrote_one d 0 x h)

wrote_second : {A : Type 0} {d : List A} {x y a b : A} → 2 ≤ length d → x ≡ a → y ≡ b → Wrote d 0 (a ∷ b ∷ []) (set (set d 0 x) 1 y) 2
wrote_second {d} {x} {y} h e g =
    let w = wrote_first {d = d} (omega arith) e in
    wrote_then w (subst (λ v. Wrote (set d 0 x) 1 (v ∷ []) (set (set d 0 x) 1 y) 2) g (wrote_one (set d 0 x) 1 y (omega (arith, length-set d 0 x))))

pub wrote_two_then : {A : Type 0} {d : List A} {x y a b : A} {s e : List A} {r : ℕ} → 2 ≤ length d → x ≡ a → y ≡ b
    → Wrote (set (set d 0 x) 1 y) 2 s e r → Wrote d 0 (a ∷ b ∷ s) e r
wrote_two_then h p q w = wrote_then (wrote_second h p q) w

pub wrote_after : {A : Type 0} {d s e : List A} {r : ℕ} {x a : A} → Wrote d 0 s e r → r < length d → x ≡ a → Wrote d 0 (s ++ (a ∷ [])) (set e r x) (r + 1)
wrote_after {d} {s} {e} {r} {x} w h q =
    subst (λ y. Wrote d 0 (s ++ (y ∷ [])) (set e r x) (r + 1)) q (wrote_then w (wrote_one e r x (omega (arith, wrote_length w))))

pub wrote_three : {A : Type 0} {d : List A} {x y v a b c : A} → 3 ≤ length d → x ≡ a → y ≡ b → v ≡ c → Wrote d 0 (a ∷ b ∷ c ∷ []) (set (set (set d 0 x) 1 y) 2 v) 3
wrote_three {d} h p q s = wrote_after (wrote_second {d = d} (omega arith) p q) (omega arith) s

-- ---- the marks

module _ (z : Sizes) (p l t K i : ℕ) where
  pub mark_negative : K / 2 ^ i % 2 ≡ 1 → neg_ℤ (pos (number_of z (mark p l i t))) ≡ mark_literal z p l t K i
  mark_negative e = rw (sym (has_test K i) ∙ eq-eqb (K / 2 ^ i % 2) 1 e)

  pub mark_positive : K / 2 ^ i % 2 ≢ 1 → pos (number_of z (mark p l i t)) ≡ mark_literal z p l t K i
  mark_positive e = rw (sym (has_test K i) ∙ ne_eqb (K / 2 ^ i % 2) 1 e)

pub marks_length : (z : Sizes) (p l t K k : ℕ) → length (marks_of z p l t K k) ≡ k
marks_length z p l t K k = each_length k 1 _ (λ i h. refl) ∙ mul-one k

-- after the premise there is room for one literal more
pub premise_eight : (z : Sizes) (x : Indices) {d e : List ℤ} {r : ℕ} → Fitting z → Wrote d 0 (premise_of z x) e r → r < 8
premise_eight z x f w = omega (arith, w.next, marks_length z x.p.0 x.l x.t.0 x.k z.candidate.sets, f.m_le)

pub premise_short : (z : Sizes) (x : Indices) {d e : List ℤ} {r : ℕ} → Fitting z → Wrote d 0 (premise_of z x) e r → clause_room ≤ length d → r < length d
premise_short z x f w h = omega (arith, premise_eight z x f w)
