-- Bounds of the numbers on the way to a variable's number.
use mathlib.Core.Path.{◌≡◌, ap, ◌∙◌}
use Prim.Native.Nat.{ℕ, suc, ◌+◌, ◌*◌, ◌≤◌, ◌<◌, min}
use native.Mathlib.Nat.{mul-le-mul, le_refl}
use native.Mathlib.Omega.{arith}
use lib.Arith.{digits_lt}
use lib.ListN.{get_or}
use Rattle.meaning.specs.BitSet.{has}
use Rattle.meaning.specs.Counting.{how_many}
use Rattle.meaning.specs.Totals.{how_many_lt}
use Rattle.encoding.specs.Variables.{step, mark, path}
use Rattle.clause_sizes.specs.declared.Sizes.{Sizes}
use Rattle.clause_sizes.specs.Sizes.{Fitting}
use Rattle.clause_sizes.specs.Limits.{candidate_subsets_le, reference_subsets_le, marks_le}
use Rattle.clause_sizes.specs.Numbers.{kept_among, before, in_row, rank_in, InFile, Numbered, number_of}
use Rattle.clause_variables.specs.declared.rows.Row.{Row}
use Rattle.clause_variables.specs.Kept.{RowOf}

-- one more digit below its base, after a number below a bound
digit_lt : {a b base : ℕ} (c d : ℕ) → a < c → b < base → base ≤ d → a * base + b < c * d
digit_lt c d h k l = omega (arith, digits_lt h k, mul-le-mul {n₁ = c} {n₂ = c} (omega arith) l)

module _ {z : Sizes} (f : Fitting z) where
  pub row_lt : {q l : ℕ} → q < z.candidate.states → l < z.letters → q * z.letters + l < 128
  row_lt hq hl = digit_lt 8 16 (omega (arith, f.n_le)) hl f.letters_le

  pub step_lt : {q l p : ℕ} → InFile z (step q l p) → (q * z.letters + l) * z.candidate.states + p < 1024
  step_lt h = digit_lt 128 8 (row_lt h.0 h.1) h.2 f.n_le

  pub mark_row_lt : {q l i p : ℕ} → InFile z (mark q l i p) → (q * z.letters + l) * z.candidate.sets + i < 512
  mark_row_lt h = digit_lt 128 4 (row_lt h.0 h.1) h.2 f.m_le

  pub mark_lt : {q l i p : ℕ} → InFile z (mark q l i p) → ((q * z.letters + l) * z.candidate.sets + i) * z.candidate.states + p < 4096
  mark_lt h = digit_lt 512 8 (mark_row_lt h) h.3 f.n_le

  -- a path, with b, s and k for the states before the row, in the row and below v in it: n * (q * pairs + b) + p * s + k, and then a digit for I and one for J
  pub record PathBounds (q p I J b s k : ℕ) : Type 0 where
    pub rows : z.candidate.states * (q * z.paths.pairs + b) ≤ 16384
    pub before_rows : q * z.paths.pairs + b ≤ 16384
    pub columns : p * s ≤ 16384
    pub pair : z.candidate.states * (q * z.paths.pairs + b) + p * s + k < 16384
    pub own : (z.candidate.states * (q * z.paths.pairs + b) + p * s + k) * z.candidate.subsets + I < 262144
    pub both : ((z.candidate.states * (q * z.paths.pairs + b) + p * s + k) * z.candidate.subsets + I) * z.reference.subsets + J < 4194304

  pub path_lt : {q u p v I J : ℕ} (b s k : ℕ) → InFile z (path q u p v I J) → b ≡ before z u → s ≡ in_row z u → k ≡ rank_in z u v → PathBounds q p I J b s k
  path_lt {q} {u} {p} {v} {I} {J} b s k ((hq, hu, hp, hv, hI, hJ, kept), h) eb es ek =
      let n = z.candidate.states in
      let P = z.paths.pairs in
      let rank_lt : rank_in z u v < in_row z u = how_many_lt (kept_among z u) v 16 (omega (arith, f.r_le)) kept in
      let less : k < s = omega arith in
      let low : p * s + k < n * s = digits_lt hp less in
      let high : suc q * P ≤ n * P = mul-le-mul hq (le_refl P) in
      let next : n * (suc q * P) ≤ n * (n * P) = mul-le-mul (le_refl n) high in
      let within : b + s ≤ P = omega arith in
      let row : n * (b + s) ≤ n * P = mul-le-mul (le_refl n) within in
      let cap : n * P ≤ 2048 = mul-le-mul f.n_le f.pairs_le in
      let caps : n * (n * P) ≤ 16384 = mul-le-mul f.n_le cap in
      let three : n * (q * P + b) + p * s + k < 16384 = omega arith in
      let four = digit_lt {b = I} 16384 16 three (omega (arith, f.candidate_subsets)) (candidate_subsets_le f) in
      record {
        rows = omega arith;
        before_rows = omega (arith, f.pairs_le);
        columns = omega arith;
        pair = three;
        own = four;
        both = digit_lt {b = J} 262144 16 four (omega (arith, f.reference_subsets)) (reference_subsets_le f);
      }

  pub mark_is : (q l i p : ℕ)
      → z.steps + (1 + (((q * z.letters + l) * z.candidate.sets + i) * z.candidate.states + p)) ≡ number_of z (mark q l i p)
  mark_is q l i p = rw f.steps_is

  pub path_is : {b s k : ℕ} (q u p v I J : ℕ) → b ≡ before z u → s ≡ in_row z u → k ≡ rank_in z u v
      → z.marks + (1 + (((z.candidate.states * (q * z.paths.pairs + b) + p * s + k) * z.candidate.subsets + I) * z.reference.subsets + J)) ≡ number_of z (path q u p v I J)
  path_is q u p v I J eb es ek = rw (eb, es, ek, f.marks_is, f.steps_is, f.candidate_subsets, f.reference_subsets)

-- the members of a row below v
pub rank_of : (z : Sizes) (u v : ℕ) {set k : ℕ} → set ≡ get_or z.paths.sets u 0 → k ≡ how_many (min v 16) (has set) → v < 16 → k ≡ rank_in z u v
rank_of z u v {set} es ek h = let e : min v 16 ≡ v = omega arith in ek ∙ ap (λ j. how_many j (has set)) e ∙ ap (λ s. how_many v (has s)) es

-- the bounds and the number of a path, by the row of u and by how many of its states are below v
module _ {z : Sizes} (f : Fitting z) {q u p v I J k : ℕ} {row : Row} (i : InFile z (path q u p v I J)) (R : RowOf z u row) (e : k ≡ how_many (min v 16) (has row.set)) where
  rank : k ≡ rank_in z u v
  rank = rank_of z u v R.set_is e (omega (arith, f.r_le, i.0.3))

  pub bounds_of : PathBounds f q p I J row.before row.size k
  bounds_of = path_lt f _ _ _ i R.before_is R.size_is rank

  pub numbered_path : Numbered z (path q u p v I J) (z.marks + (1 + (((z.candidate.states * (q * z.paths.pairs + row.before) + p * row.size + k) * z.candidate.subsets + I) * z.reference.subsets + J)))
  numbered_path = record { is = path_is f _ _ _ _ _ _ R.before_is R.size_is rank; some = omega arith; small = omega (arith, bounds_of.both, marks_le f) }
