-- Laws of numbers in a text: their digits, their value digit by digit, and that saturating changes no comparison with a limit.
use Rattle.std.specs.Prelude.{◌≡◌, ◌↔◌, true, false, List, [], ◌∷◌, ◌++◌, ℕ, suc, ◌+◌, ◌≤◌, ◌<◌, min, leb, eqb, length, get_or, take, drop}
use Rattle.std.proofs.Common.{ap, ◌∙◌, arith, leb-true, le-leb, take-suc, length-take-le}
use Rattle.std.proofs.Math.Bool.{and-false}
use Rattle.std.proofs.lemmas.Bool.{lt-leb}
use Rattle.std.proofs.Math.Seq.{slice, slice-cons, slice_empty}
use Rattle.std.proofs.lemmas.List.{drop-append-le}
use Rattle.meaning.specs.TestLaws.{and_left}
use Rattle.hoa_text.specs.Tokens.{digit, leading_zero}

-- ---- digits

pub digit_from : (b : ℕ) → digit b ≡ true → 48 ≤ b
digit_from b h = leb-true 48 b (and_left (leb 48 b) (leb b 57) h)

pub digit_between : (b : ℕ) → 48 ≤ b → b ≤ 57 → digit b ≡ true
digit_between b h g = rw (le-leb 48 b h, le-leb b 57 g)

pub below_digits : (b : ℕ) → b < 48 → digit b ≡ false
below_digits b h = rw (lt-leb 48 b h)

pub above_digits : (b : ℕ) → 57 < b → digit b ≡ false
above_digits b h = rw (lt-leb b 57 h) (and-false (leb 48 b))

-- ---- values

-- a limit up to 255 is kept by the value exactly if it is kept by the number
pub saturates : (v limit : ℕ) → limit ≤ 255 → (min v 255 < limit) ↔ (v < limit)
saturates v limit h = (λ g. omega arith, λ g. omega arith)

-- ---- the digits from i up to e

module _ (s : List ℕ) (i e : ℕ) where
  pub slice_more : i ≤ e → e < length s → slice i (e + 1) s ≡ slice i e s ++ (get_or s e 0 ∷ [])
  slice_more h g =
      let a : e + 1 ≡ suc e = omega arith in
      ap (λ k. drop i (take k s)) a ∙ ap (drop i) (take-suc s e 0 g) ∙ drop-append-le i (take e s) (get_or s e 0 ∷ []) (omega (arith, length-take-le e s (omega arith)))

  pub leads_zero : i + 1 < e → e ≤ length s → leading_zero (slice i e s) ≡ eqb (get_or s i 0) 48
  leads_zero h g = ap leading_zero (slice-cons i e s 0 (omega arith) g ∙ ap {B = List ℕ} (λ w. get_or s i 0 ∷ w) (slice-cons (suc i) e s 0 (omega arith) g))

pub one_digit : (s : List ℕ) (i : ℕ) → i < length s → leading_zero (slice i (i + 1) s) ≡ false
one_digit s i h = ap leading_zero (slice_more s i i (omega arith) h ∙ ap (λ w. w ++ (get_or s i 0 ∷ [])) (slice_empty i s))
