-- The texts of literals that are kept, and the slots of the middle ones.
use mathlib.Core.Path.{◌≡◌, refl, sym, ap, ap₂, ◌∙◌, subst₂}
use mathlib.Core.List.{List, [], ◌∷◌}
use Prim.Native.Nat.{ℕ, zero, suc, ◌+◌, ◌-◌, ◌*◌, ◌/◌, ◌%◌, ◌^◌, ◌≤◌, ◌<◌}
use native.Mathlib.Nat.{mul-le-mul}
use native.Mathlib.Omega.{arith}
use lib.IntN.{ℤ}
use lib.ListN.{length, take, drop}
use lib.Pow.{pow_mono}
use lib.Arith.{digits_lt, digits_div, digits_mod}
use Rattle.decimal.specs.Wrote.{Wrote}
use Rattle.decimal.specs.Writing.{wrote_length, wrote_front}
use Rattle.clause_sizes.specs.declared.Sizes.{Sizes}
use Rattle.clause_sizes.specs.Sizes.{Fitting}
use Rattle.clause_sizes.specs.Limits.{candidate_subsets_le}
use Rattle.clause_indices.specs.declared.Indices.{Indices}
use Rattle.clause_indices.specs.Indices.{Within, premise_of}
use Rattle.clause_words.specs.Text.{spaced_text}
use Rattle.clause_words.specs.Written.{LiteralsIfRoom}
use Rattle.clause_text.specs.Blocks.{middle_of, middle_slot, pair_name, middle_texts}

-- the text of literals in a slot, and its length
pub literals_kept : {d : List ℕ} {at : ℕ} (c b : List ℤ) {e : List ℕ} {r : ℕ} → c ≡ b → LiteralsIfRoom d at c e r → at + length c * 12 ≤ length d
    → (at ≤ r) × (r - at ≤ length c * 12) × Wrote d at (spaced_text b) e (at + (r - at))
literals_kept {d} {at} c b {e} {r} q l h =
    let (w, most) = l.roomy h in
    let is : r ≡ at + (r - at) = omega (arith, w.next) in
    (omega (arith, w.next), omega (arith, most), subst₂ (λ c r. Wrote d at (spaced_text c) e r) q is w)

none_taken : (n : ℕ) → take {A = ℤ} n [] ≡ []
none_taken zero = refl
none_taken (suc n) = refl

-- all but the first
part_first : (r : ℕ) (e : List ℤ) → take (r - 1) (drop 1 e) ≡ drop 1 (take r e)
part_first r [] = none_taken (r - 1) ∙ ap (drop 1) (sym (none_taken r))
part_first zero (x ∷ e) = refl
part_first (suc r) (x ∷ e) = let q : suc r - 1 ≡ r = omega arith in ap (λ n. take n e) q

-- the middle literals, from the premise's second on
pub middle_read : (z : Sizes) (x : Indices) {d e : List ℤ} {r : ℕ} → Wrote d 0 (premise_of z x) e r
    → (1 ≤ r) × (r ≤ length e) × (take (r - 1) (drop 1 e) ≡ middle_of z x.p.0 x.t.0 x.l x.k)
middle_read z x {e} {r} w = (omega (arith, w.next), omega (arith, w.room, wrote_length w), part_first r e ∙ ap (drop 1) (wrote_front w))

-- ---- the slots of the middle literals

module _ (z : Sizes) (f : Fitting z) where
  -- the slot as the code counts it
  pub middle_slot_is : (l K : ℕ) → l * z.candidate.subsets + K ≡ middle_slot z l K
  middle_slot_is l K = ap (λ a. l * a + K) f.candidate_subsets

  pub letters_le : {l : ℕ} → l < z.letters → l * z.candidate.subsets ≤ 256
  letters_le h = mul-le-mul {n₂ = 16} (omega (arith, f.letters_le)) (candidate_subsets_le f)

module _ {z : Sizes} (f : Fitting z) {x : Indices} (h : Within z x) where
  pub states_le : x.p.0 * z.candidate.states ≤ 64
  states_le = mul-le-mul {n₂ = 8} (omega (arith, h.p_lt, f.n_le)) f.n_le

  module _ {slot : ℕ} (is : slot ≡ middle_slot z x.l x.k) where
    pub middle_lt : slot < 256
    middle_lt = rw is (omega (arith, digits_lt h.l_lt h.k_lt, mul-le-mul f.letters_le (pow_mono {j = 4} f.m_le)))

    -- p and t are the digits of the name, l and K those of the slot
    pub middle_slot_text : middle_texts z slot (pair_name z x.p.0 x.t.0) ≡ spaced_text (middle_of z x.p.0 x.t.0 x.l x.k)
    middle_slot_text =
        let n = z.candidate.states in
        let M = 2 ^ z.candidate.sets in
        let less : pair_name z x.p.0 x.t.0 - 1 ≡ x.p.0 * n + x.t.0 = omega arith in
        ap (λ a. spaced_text (middle_of z (a / n) (a % n) (slot / M) (slot % M))) less
        ∙ ap₂ (λ p t. spaced_text (middle_of z p t (slot / M) (slot % M))) (digits_div x.p.0 h.t_lt) (digits_mod x.p.0 h.t_lt)
        ∙ ap (λ a. spaced_text (middle_of z x.p.0 x.t.0 (a / M) (a % M))) is
        ∙ ap₂ (λ l K. spaced_text (middle_of z x.p.0 x.t.0 l K)) (digits_div x.l h.k_lt) (digits_mod x.l h.k_lt)
