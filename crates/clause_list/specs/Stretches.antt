-- Stretches of positions without a clause.
use Rattle.std.specs.Prelude.{◌≡◌, refl, Bool, false, ◌&&◌, List, ℕ, ◌+◌, ◌-◌, ◌*◌, ◌/◌, ◌%◌, ◌^◌, ◌≤◌, ◌<◌, get_or}
use Rattle.std.proofs.Common.{sym, ap, ap₂, ◌∙◌, subst, div-one, div-lt_iff_lt-mul, mul-le-mul, le_refl, mod-lt, div-add-mod', arith, pow_pos}
use Rattle.std.proofs.Math.Bool.{and-false}
use Rattle.std.proofs.Math.Nat.{div-div-eq-div-mul}
use Rattle.std.proofs.Math.Arith.{digits_div}
use Rattle.clause_sizes.specs.declared.Sizes.{Sizes}
use Rattle.clause_sizes.specs.Sizes.{Fitting}
use Rattle.clause_sizes.specs.Limits.{candidate_subsets_le, reference_subsets_le}
use Rattle.clause_sizes.specs.Numbers.{kept_among}
use Rattle.clause_variables.specs.Kept.{KeptIfAny}
use Rattle.clause_indices.specs.declared.Indices.{Indices}
use Rattle.clause_indices.specs.declared.extent.Extent.{Extent}
use Rattle.clause_indices.specs.Indices.{Within, closures, extension_indices, ExtentOf}
use Rattle.clause_list.specs.declared.digits.Marking.{Marking}
use Rattle.clause_list.specs.declared.digits.Transition.{Transition}
use Rattle.clause_list.specs.Digits.{MarkingOf, TransitionOf}
use Rattle.clause_list.specs.Gaps.{Stretch, Failing, ThirdStretch, FourthStretch, AbsentBetween, third, fourth}

-- ---- the first multiple past x

pub stretch_is : (x w : ℕ) → 0 < w → Stretch x w ((x / w + 1) * w)
stretch_is x w h =
    let split : x / w * w + x % w ≡ x = div-add-mod' x w in
    let low = mod-lt x h in
    record {
      is = refl;
      past = omega arith;
      same = λ i g l.
          let e : i ≡ x / w * w + (i - x / w * w) = omega arith in
          let rest : i - x / w * w < w = omega arith in
          ap (λ k. k / w) e ∙ digits_div (x / w) rest;
    }

-- it does not go past the last stretch
pub stretch_le : {count x w y : ℕ} {test : ℕ → Bool} → Failing count test x w → Stretch x w y → x < count → y ≤ count
stretch_le {count} {x} {w} {y} f s h =
    let less : x / w < f.stretches = (div-lt_iff_lt-mul f.some).1 (subst (λ c. x < c) f.divided h) in
    let le : (x / w + 1) * w ≤ f.stretches * w = mul-le-mul (omega arith) (le_refl w) in
    omega (arith, s.is, f.divided)

-- ---- the widths

-- a stretch of one position
pub alone : {count x : ℕ} {test : ℕ → Bool} → Failing count test x 1
alone {count} {x} = record {
  some = omega arith;
  width_le = omega arith;
  stretches = count;
  divided = omega arith;
  fails = λ i h e. absurd (omega (arith, div-one i, div-one x));
}

module _ {z : Sizes} (f : Fitting z) where
  abbrev M : ℕ
  M = 2 ^ z.candidate.sets

  abbrev S : ℕ
  S = 2 ^ z.reference.sets

  -- the positions for one transition, and for one state
  pub marking_width : z.candidate.subsets * z.reference.subsets * z.candidate.subsets ≡ M * S * M
  marking_width = rw (f.candidate_subsets, f.reference_subsets)

  pub markings_some : 0 < z.candidate.subsets * z.reference.subsets * z.candidate.subsets
  markings_some = subst (λ k. 0 < k) (sym marking_width) (mul-le-mul {n₁ = 1} {m₁ = 1} (mul-le-mul {n₁ = 1} {m₁ = 1} (pow_pos z.candidate.sets) (pow_pos z.reference.sets)) (pow_pos z.candidate.sets))

  pub markings_le : z.candidate.subsets * z.reference.subsets ≤ 256
  markings_le = mul-le-mul (candidate_subsets_le f) (reference_subsets_le f)

  pub all_markings_le : z.candidate.subsets * z.reference.subsets * z.candidate.subsets ≤ 4096
  all_markings_le = mul-le-mul markings_le (candidate_subsets_le f)

  pub state_le : z.candidate.subsets * z.reference.subsets * z.candidate.subsets * z.letters ≤ 65536
  state_le = mul-le-mul all_markings_le f.letters_le

  pub state_some : 0 < z.candidate.subsets * z.reference.subsets * z.candidate.subsets * z.letters
  state_some = mul-le-mul {n₁ = 1} {m₁ = 1} markings_some f.letters_some

  -- division by the width takes the sets of marks off
  by_width : (i : ℕ) → i / (z.candidate.subsets * z.reference.subsets * z.candidate.subsets) ≡ i / M / S / M
  by_width i = ap (λ k. i / k) marking_width ∙ sym (div-div-eq-div-mul i (M * S) M) ∙ ap (λ k. k / M) (sym (div-div-eq-div-mul i M S))

  by_state : (i : ℕ) → i / (z.candidate.subsets * z.reference.subsets * z.candidate.subsets * z.letters) ≡ i / M / S / M / z.letters
  by_state i = sym (div-div-eq-div-mul i (z.candidate.subsets * z.reference.subsets * z.candidate.subsets) z.letters) ∙ ap (λ k. k / z.letters) (by_width i)

  module _ (destinations : List ℕ) where
    abbrev r : ℕ
    r = z.reference.states

    -- u and v by what is left of a position without its letter; w by what is left without its sets of marks
    abbrev first_test : ℕ → Bool
    first_test a = kept_among z (a / r % r) (a % r)

    abbrev second_test : ℕ → Bool
    second_test a = kept_among z (a / z.letters / r % r) (get_or destinations (a / z.letters % r * 16 + a % z.letters) 0)

    abbrev closing_test : ℕ → Bool
    closing_test a = kept_among z (get_or destinations (a / z.letters % r * 16 + a % z.letters) 0) (a / z.letters % r)

    -- u has no paths to v
    pub no_row_lem : {x : ℕ} {b : Bool} {i : Indices} → i ≡ extension_indices z x → KeptIfAny z i.u.0 i.v.0 b → Within z i → b ≡ false
        → ThirdStretch z destinations x (z.candidate.subsets * z.reference.subsets * z.candidate.subsets * z.letters)
    no_row_lem {x} {b} {i} e k w h = record {
      some = state_some;
      width_le = state_le;
      stretches = z.candidate.states * z.candidate.states * z.candidate.states * r * r;
      divided = rw (f.candidate_subsets, f.reference_subsets) (omega arith);
      fails = λ j l s.
          let same : j / M / S / M / z.letters ≡ x / M / S / M / z.letters = sym (by_state j) ∙ s ∙ by_state x in
          let no : first_test (x / M / S / M / z.letters) ≡ false =
          sym (ap (λ (y : Indices). kept_among z y.u.0 y.v.0) e) ∙ sym (k.there (omega (arith, w.u_lt, f.r_le))) ∙ h in
          ap (λ t. t && second_test (j / M / S / M)) (ap first_test same ∙ no);
    }

    -- and none to the step from v by l
    pub no_step : {x t : ℕ} {b : Bool} {i : Indices} → i ≡ extension_indices z x → KeptIfAny z i.u.0 t b → t ≡ get_or destinations (i.v.0 * 16 + i.l) 0 → Within z i → b ≡ false
        → ThirdStretch z destinations x (z.candidate.subsets * z.reference.subsets * z.candidate.subsets)
    no_step {x} {t} {b} {i} e k d w h = record {
      some = markings_some;
      width_le = omega (arith, all_markings_le);
      stretches = z.candidate.states * z.candidate.states * z.candidate.states * r * r * z.letters;
      divided = rw (f.candidate_subsets, f.reference_subsets) (omega arith);
      fails = λ j l s.
          let same : j / M / S / M ≡ x / M / S / M = sym (by_width j) ∙ s ∙ by_width x in
          let no : second_test (x / M / S / M) ≡ false =
          sym (ap (λ (y : Indices). kept_among z y.u.0 (get_or destinations (y.v.0 * 16 + y.l) 0)) e) ∙ sym (ap (kept_among z i.u.0) d)
          ∙ sym (k.there (omega (arith, w.u_lt, f.r_le))) ∙ h in
          ap (λ t. first_test (j / M / S / M / z.letters) && t) (ap second_test same ∙ no) ∙ and-false (first_test (j / M / S / M / z.letters));
    }

    -- group 4: the step from v by l has no paths to v
    pub no_closing : {x t : ℕ} {b : Bool} {a : Marking} {c : Transition} → MarkingOf z x a → TransitionOf z a.rest c → t ≡ get_or destinations (c.v.0 * 16 + c.l) 0
        → KeptIfAny z t c.v.0 b → t < 16 → b ≡ false
        → FourthStretch z destinations x (z.candidate.subsets * z.reference.subsets * z.candidate.subsets)
    no_closing {x} {t} {b} {a} {c} m tr d k lt h = record {
      some = markings_some;
      width_le = omega (arith, all_markings_le);
      stretches = z.candidate.states * z.candidate.states * r * z.letters;
      divided = rw (f.candidate_subsets, f.reference_subsets) (omega arith);
      fails = λ j l s.
          let same : j / M / S / M ≡ x / M / S / M = sym (by_width j) ∙ s ∙ by_width x in
          let v = tr.v_is ∙ ap (λ y. y / z.letters % r) m.rest_is in
          let l = tr.l_is ∙ ap (λ y. y % z.letters) m.rest_is in
          let no : closing_test (x / M / S / M) ≡ false =
          sym (ap₂ (λ v l. kept_among z (get_or destinations (v * 16 + l) 0) v) v l) ∙ sym (ap (λ y. kept_among z y c.v.0) d) ∙ sym (k.there lt) ∙ h in
          ap closing_test same ∙ no;
    }

-- ---- to the end of a stretch

abbrev pub Onward : Sizes → Extent → List ℕ → (x y : ℕ) → Type 0
Onward z g destinations x y = (x < y) × (y ≤ g.all) × AbsentBetween z g destinations x y

module _ {z : Sizes} {g : Extent} (k : ExtentOf z g) (destinations : List ℕ) where
  pub one_more : {x : ℕ} → x < g.all → Onward z g destinations x (x + 1)
  one_more h = (omega arith, omega arith, λ i l u. absurd (omega arith))

  pub after_third : {x w p : ℕ} → g.first + g.second ≤ x → x - (g.first + g.second) < g.third → ThirdStretch z destinations (x - (g.first + g.second)) w
      → Stretch (x - (g.first + g.second)) w p → Onward z g destinations x (g.first + g.second + p)
  after_third {x} {w} {p} h l f s =
      let le : p ≤ g.third = subst (λ c. p ≤ c) (sym k.third_is) (stretch_le f s (subst (λ c. x - (g.first + g.second) < c) k.third_is l)) in (
        omega (arith, s.past),
        omega (arith, k.all_is),
        λ i a u.
            let t = i - (g.first + g.second) in
            third t (omega arith) (omega arith) (f.fails t (omega arith) (s.same t (omega arith) (omega arith))),
      )

  pub after_fourth : {x w p : ℕ} → x < g.all → g.first + g.second ≤ x → g.third ≤ x - (g.first + g.second)
      → FourthStretch z destinations (x - (g.first + g.second) - g.third) w → Stretch (x - (g.first + g.second) - g.third) w p
      → Onward z g destinations x (g.first + g.second + (g.third + p))
  after_fourth {x} {w} {p} h l m f s =
      let y = x - (g.first + g.second) - g.third in
      let lt : y < closures z = omega (arith, k.all_is) in
      let le : p ≤ closures z = stretch_le f s lt in (
        omega (arith, s.past),
        omega (arith, k.all_is),
        λ i a u.
            let t = i - (g.first + g.second) - g.third in
            fourth t (omega arith) (omega arith) (f.fails t (omega arith) (s.same t (omega arith) (omega arith))),
      )
