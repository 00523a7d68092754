-- Past a stretch of positions: the number of the first position after it, and its indices.
use Rattle.std.proofs.Common.{◌≡◌, ℕ, ◌+◌, ◌-◌, ◌*◌, ◌/◌, ◌%◌, ◌^◌, ◌<◌, ◌≤◌, Bool, true, false, ◌&&◌, ◌||◌, eqb, ltb, sym, refl, ap, ◌∙◌, subst, true≢false, le_refl, mod-eq_of_lt, mul-le-mul, div-add-mod', mul-one, arith, pow_pos, le-ltb, eqb-true}
use native.Mathlib.Nat.{div-div-eq-div-mul, mul-mod_left}
use lib.Arith.{digits_lt, digits_div}
use Rattle.meaning.specs.TestLaws.{and_left, and_right}
use Rattle.encoding.specs.Numbering.{split}
use Rattle.clause_sizes.specs.declared.Sizes.{Sizes}
use Rattle.clause_sizes.specs.Sizes.{Fitting}
use Rattle.clause_sizes.specs.Limits.{candidate_subsets_le, reference_subsets_le}
use Rattle.clause_indices.specs.declared.Indices.{Indices}
use Rattle.clause_indices.specs.Indices.{extensions, extension_indices}
use Rattle.clause_order.specs.Passes.{Passes, transition_width, state_width}
use Rattle.clause_order.specs.Stretches.{PastOf, extensions_le}
use Rattle.clause_order.proofs.Carries.{at_sets, indices_with_sets, sets_indices, sets_lt, Sets, sets_of, moved, letter_next, state_next, last_letter}

-- ---- the widths

-- the test of the sizes
abbrev pub Small : ℕ → ℕ → ℕ → Type 0
Small a b l = (a ≤ 16) × (b ≤ 16) × (l ≤ 16)

pub sizes_out : (a b l : ℕ) → ((ltb 16 a || ltb 16 b) || ltb 16 l) ≡ true → ¬ Small a b l
sizes_out a b l e (p, q, r) =
    let none : ((ltb 16 a || ltb 16 b) || ltb 16 l) ≡ false = rw (le-ltb 16 a p, le-ltb 16 b q, le-ltb 16 l r) in
    true≢false (sym e ∙ none)

module _ {a b l : ℕ} (s : Small a b l) where
  pub two_le : a * b ≤ 256
  two_le = mul-le-mul s.0 s.1

  pub three_le : a * b * a ≤ 4096
  three_le = mul-le-mul two_le s.0

  pub width_le : a * b * a * l ≤ 65536
  width_le = mul-le-mul three_le s.2

module _ {z : Sizes} (f : Fitting z) where
  width_is : (letters : ℕ) → z.candidate.subsets * z.reference.subsets * z.candidate.subsets * letters ≡ transition_width z * letters
  width_is letters = rw (f.candidate_subsets, f.reference_subsets)

  transition_some : 0 < transition_width z
  transition_some = mul-le-mul {n₁ = 1} {m₁ = 1} (mul-le-mul {n₁ = 1} {m₁ = 1} (pow_pos z.candidate.sets) (pow_pos z.reference.sets)) (pow_pos z.candidate.sets)

  pub fitting_in : {letters : ℕ} → letters ≤ z.letters → Small z.candidate.subsets z.reference.subsets letters
  fitting_in le = (candidate_subsets_le f, reference_subsets_le f, omega (arith, le, f.letters_le))

  pub width_some : {letters : ℕ} → 1 ≤ letters → 0 < z.candidate.subsets * z.reference.subsets * z.candidate.subsets * letters
  width_some {letters} some = subst (λ w. 0 < w) (sym (width_is letters)) (mul-le-mul {n₁ = 1} {m₁ = 1} transition_some some)

-- the remainder taken away, and one width more
multiple : (k w : ℕ) → k - k % w + w ≡ (k / w + 1) * w
multiple k w = let e : k / w * w + k % w ≡ k = div-add-mod' k w in omega arith

-- where nothing remains
from_multiple : (k w : ℕ) → k % w ≡ 0 → k + w ≡ (k / w + 1) * w
from_multiple k w none = let e : k / w * w + k % w ≡ k = div-add-mod' k w in omega arith

pub no_past : {z : Sizes} {letters k : ℕ} {first : Bool} → ¬ (Fitting z × (1 ≤ letters) × (letters ≤ z.letters)) → PastOf z letters first k k
no_past n = record { is = λ f s l h _. absurd (n (f, s, l)) }

pub first_past : {z : Sizes} {letters k j : ℕ} {first : Bool}
    → let w = z.candidate.subsets * z.reference.subsets * z.candidate.subsets * letters in
    first ≡ true → j ≡ (k + w) % 2 ^ 64 → PastOf z letters first k j
first_past {z} {letters} {k} t e = record {
  is = λ f _ le h at_first.
      let w = z.candidate.subsets * z.reference.subsets * z.candidate.subsets * letters in
      let none : k % w ≡ 0 = ap (λ w. k % w) (width_is f letters) ∙ at_first t in
      e ∙ mod-eq_of_lt (omega (arith, extensions_le f, width_le (fitting_in f le))) ∙ from_multiple k w none ∙ ap (λ w. (k / w + 1) * w) (width_is f letters);
}

pub a_past : {z : Sizes} {letters k j : ℕ} {first : Bool}
    → let w = z.candidate.subsets * z.reference.subsets * z.candidate.subsets * letters in
    j ≡ (k - k % w + w) % 2 ^ 64 → PastOf z letters first k j
a_past {z} {letters} {k} e = record {
  is = λ f _ le h _.
      let w = z.candidate.subsets * z.reference.subsets * z.candidate.subsets * letters in
      e ∙ mod-eq_of_lt (omega (arith, extensions_le f, width_le (fitting_in f le))) ∙ multiple k w ∙ ap (λ w. (k / w + 1) * w) (width_is f letters);
}

-- ---- the indices

module _ {z : Sizes} (f : Fitting z) {k : ℕ} (s : Sets z k) where
  abbrev M : ℕ
  M = 2 ^ z.candidate.sets

  abbrev S : ℕ
  S = 2 ^ z.reference.sets

  -- which transition the position belongs to
  pub transition_is : k / transition_width z ≡ s.a
  transition_is =
      let low : (s.I * S + s.J) * M + s.K < M * S * M = digits_lt (digits_lt s.I-lt s.J-lt) s.K-lt in
      let e : k ≡ s.a * transition_width z + ((s.I * S + s.J) * M + s.K) = omega (arith, s.place) in
      ap (λ x. x / transition_width z) e ∙ digits_div s.a low

  pub state_is : k / state_width z ≡ s.a / z.letters
  state_is = sym (div-div-eq-div-mul k (transition_width z) z.letters) ∙ ap (λ x. x / z.letters) transition_is

module _ (z : Sizes) where
  first_of : (a : ℕ) → at_sets z a 0 0 0 ≡ a * transition_width z
  first_of a = omega arith

  abbrev parts : ℕ
  parts = z.candidate.states * z.candidate.states * z.candidate.states * z.reference.states * z.reference.states * z.letters

  some_M : 0 < 2 ^ z.candidate.sets
  some_M = pow_pos z.candidate.sets

  some_S : 0 < 2 ^ z.reference.sets
  some_S = pow_pos z.reference.sets

  -- at the first sets of the part a
  at_part : {j : ℕ} (a : ℕ) (y : Indices) → j ≡ a * transition_width z → a < parts → y ≡ indices_with_sets z a 0 0 0 → (j < extensions z) × (y ≡ extension_indices z j)
  at_part {j} a y e h q =
      let at : at_sets z a 0 0 0 ≡ j = first_of a ∙ sym e in
      (subst (λ m. m < extensions z) at (sets_lt z a 0 0 0 h some_M some_S some_M), q ∙ sym (sets_indices z a 0 0 0 some_M some_S some_M) ∙ ap (extension_indices z) at)

  parts_are : parts * transition_width z ≡ extensions z
  parts_are = omega arith

  to_part : {j : ℕ} (a : ℕ) (y : Indices) → j ≡ a * transition_width z → a ≤ parts → (y.v.0 < z.reference.states → (a < parts) × (y ≡ indices_with_sets z a 0 0 0))
      → (j ≤ extensions z) × (y.v.0 < z.reference.states → (j < extensions z) × (y ≡ extension_indices z j))
  to_part a y e h g =
      let le : a * transition_width z ≤ parts * transition_width z = mul-le-mul h (le_refl (transition_width z)) in
      (omega (arith, e, parts_are), λ v. let t = g v in at_part a y e t.0 t.1)

module _ (z : Sizes) (x : Indices) (k : ℕ) where
  -- the tests that x has the first sets, and the first letter too
  abbrev pub first_sets : Bool
  first_sets = (eqb x.i 0 && eqb x.j 0) && eqb x.k 0

  abbrev pub first_letter_lem : Bool
  first_letter_lem = ((eqb x.l 0 && eqb x.i 0) && eqb x.j 0) && eqb x.k 0

  module _ (s : Sets z k) (e : x ≡ indices_with_sets z s.a s.I s.J s.K) where
    part_starts : x.i ≡ 0 → x.j ≡ 0 → x.k ≡ 0 → k ≡ s.a * transition_width z
    part_starts hi hj hk =
        let I-is : s.I ≡ 0 = sym (ap (λ y. y.i) e) ∙ hi in
        let J-is : s.J ≡ 0 = sym (ap (λ y. y.j) e) ∙ hj in
        let K-is : s.K ≡ 0 = sym (ap (λ y. y.k) e) ∙ hk in
        s.place ∙ (λ i. at_sets z s.a (I-is i) (J-is i) (K-is i)) ∙ first_of z s.a

    letter_starts : first_sets ≡ true → k % (transition_width z * 1) ≡ 0
    letter_starts t =
        let ij = and_left (eqb x.i 0 && eqb x.j 0) (eqb x.k 0) t in
        let is = part_starts (eqb-true _ _ (and_left (eqb x.i 0) (eqb x.j 0) ij)) (eqb-true _ _ (and_right (eqb x.i 0) (eqb x.j 0) ij))
        (eqb-true _ _ (and_right (eqb x.i 0 && eqb x.j 0) (eqb x.k 0) t)) in
        ap (λ w. k % w) (mul-one (transition_width z)) ∙ ap (λ y. y % transition_width z) is ∙ mul-mod_left s.a (transition_width z)

    state_starts : first_letter_lem ≡ true → k % (transition_width z * z.letters) ≡ 0
    state_starts t =
        let L = z.letters in
        let lij = and_left ((eqb x.l 0 && eqb x.i 0) && eqb x.j 0) (eqb x.k 0) t in
        let li = and_left (eqb x.l 0 && eqb x.i 0) (eqb x.j 0) lij in
        let is = part_starts (eqb-true _ _ (and_right (eqb x.l 0) (eqb x.i 0) li)) (eqb-true _ _ (and_right (eqb x.l 0 && eqb x.i 0) (eqb x.j 0) lij))
        (eqb-true _ _ (and_right ((eqb x.l 0 && eqb x.i 0) && eqb x.j 0) (eqb x.k 0) t)) in
        let l_is : s.a % L ≡ 0 = sym (ap (λ y. y.l) e) ∙ eqb-true _ _ (and_left (eqb x.l 0) (eqb x.i 0) li) in
        let whole : s.a / L * L + s.a % L ≡ s.a = div-add-mod' s.a L in
        let a-is : s.a ≡ s.a / L * L = omega (arith, whole, l_is) in
        let regroup : (b : ℕ) → b * L * transition_width z ≡ b * (transition_width z * L) = λ b. omega arith in
        ap (λ y. y % (transition_width z * L)) (is ∙ ap (λ a. a * transition_width z) a-is ∙ regroup (s.a / L)) ∙ mul-mod_left (s.a / L) (transition_width z * L)

  letter_at : {j : ℕ} → Fitting z → (s : Sets z k) → x ≡ indices_with_sets z s.a s.I s.J s.K → PastOf z 1 first_sets k j → k < extensions z → j ≡ (k / transition_width z + 1) * transition_width z
  letter_at f s e p h = p.is f (omega arith) f.letters_some h (letter_starts s e) ∙ ap (λ w. (k / w + 1) * w) (mul-one (transition_width z))

  pub letter_passed : {l j : ℕ} → l ≡ (x.l + 1) % 2 ^ 64 → l < z.letters → PastOf z 1 first_sets k j → Passes z (transition_width z) x k (record { indices = moved z x x.v.0 l 0 0 0; position = j })
  letter_passed {l} {j} l_is hl p = record {
    same_q = refl;
    same_p = refl;
    same_t = refl;
    same_u = refl;
    next = λ f h e.
        let s = sets_of z k h in
        let here = e ∙ s.indices in
        let q = letter_at f s here p h in
        let is = q ∙ ap (λ a. (a + 1) * transition_width z) (transition_is f s) in
        let t = letter_next z x f s here l_is hl in
        let (le, in_block) = to_part z (s.a + 1) (moved z x x.v.0 l 0 0 0) is (omega (arith, s.a_lt)) (λ v. t) in
        (q, le, in_block);
  }

  pub letter_wrapped : {l v j : ℕ} → l ≡ (x.l + 1) % 2 ^ 64 → z.letters ≤ l → v ≡ (x.v.0 + 1) % 2 ^ 64 → PastOf z 1 first_sets k j
      → Passes z (transition_width z) x k (record { indices = moved z x v 0 0 0 0; position = j })
  letter_wrapped {l} {v} {j} l_is hl v_is p = record {
    same_q = refl;
    same_p = refl;
    same_t = refl;
    same_u = refl;
    next = λ f h e.
        let s = sets_of z k h in
        let here = e ∙ s.indices in
        let q = letter_at f s here p h in
        let last = last_letter z x f s here l_is hl in
        let is = q ∙ ap (λ a. (a + 1) * transition_width z) (transition_is f s) ∙ ap (λ a. a * transition_width z) last in
        let (le, in_block) = to_part z ((s.a / z.letters + 1) * z.letters) (moved z x v 0 0 0 0) is (omega (arith, s.a_lt, last)) (λ g. state_next z x f s here v_is g) in
        (q, le, in_block);
  }

  pub state_passed : {v j : ℕ} → v ≡ (x.v.0 + 1) % 2 ^ 64 → PastOf z z.letters first_letter_lem k j → Passes z (state_width z) x k (record { indices = moved z x v 0 0 0 0; position = j })
  state_passed {v} {j} v_is p = record {
    same_q = refl;
    same_p = refl;
    same_t = refl;
    same_u = refl;
    next = λ f h e.
        let s = sets_of z k h in
        let L = z.letters in
        let here = e ∙ s.indices in
        let q = p.is f f.letters_some (le_refl L) h (state_starts s here) in
        let regroup : (b : ℕ) → (b + 1) * (transition_width z * L) ≡ (b + 1) * L * transition_width z = λ b. omega arith in
        let is = q ∙ ap (λ b. (b + 1) * state_width z) (state_is f s) ∙ regroup (s.a / L) in
        let less = state_lt f s in
        let (le, in_block) = to_part z ((s.a / L + 1) * L) (moved z x v 0 0 0 0) is less (λ g. state_next z x f s here v_is g) in
        (q, le, in_block);
  }
    where
      state_lt : Fitting z → (s : Sets z k) → (s.a / z.letters + 1) * z.letters
          ≤ z.candidate.states * z.candidate.states * z.candidate.states * z.reference.states * z.reference.states * z.letters
      state_lt f s =
          let less : s.a / z.letters + 1 ≤ z.candidate.states * z.candidate.states * z.candidate.states * z.reference.states * z.reference.states = omega (arith, (split s.a (z.candidate.states * z.candidate.states * z.candidate.states * z.reference.states * z.reference.states) z.letters s.a_lt).0) in
          mul-le-mul less (le_refl z.letters)
