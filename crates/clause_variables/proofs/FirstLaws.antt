-- The first paths of a row: bounds on the way to their numbers, what the numbers are, and how they are counted.
use mathlib.Core.Path.{◌≡◌, refl, sym, ap, ◌∙◌, subst, subst₂}
use mathlib.Core.Bool.{Bool, true, false, cond, ◌&&◌}
use mathlib.Core.List.{List}
use Prim.Native.Nat.{ℕ, suc, ◌+◌, ◌-◌, ◌*◌, ◌%◌, ◌^◌, ◌≤◌, ◌<◌}
use native.Mathlib.Nat.{mul-le-mul, le_refl, add-mul, mod-lt}
use native.Mathlib.Decide.{dec_lt}
use native.Mathlib.Numerals.{add-one}
use native.Mathlib.Omega.{arith}
use borrow.Author.Tests.{lt-ltb, le-ltb, ltb-true}
use lib.Bits.{and_mask}
use lib.Dec.{ltb}
use lib.Pow.{pow_pos}
use lib.ListN.{length, get_or, set}
use Rattle.meaning.specs.BitSet.{bit, has}
use Rattle.meaning.specs.BitSetLaws.{has_and}
use Rattle.meaning.proofs.FullSets.{has_below}
use Rattle.meaning.specs.Counting.{total, how_many}
use Rattle.meaning.specs.CountingLaws.{Filled, filled_none, filled_more, each_at}
use Rattle.meaning.specs.TestLaws.{and_true, and_left, and_right, on_cond}
use Rattle.meaning.specs.Totals.{how_many_same}
use Rattle.bits.specs.Members.{shift_is}
use Rattle.bits.specs.SetLaws.{has_past}
use Rattle.automaton.specs.Value.{table}
use Rattle.encoding.specs.Variables.{Var, path}
use Rattle.clause_sizes.specs.declared.Sizes.{Sizes}
use Rattle.clause_sizes.specs.Sizes.{Fitting}
use Rattle.clause_sizes.specs.Limits.{marks_le, markings_le}
use Rattle.clause_sizes.specs.Numbers.{kept_among, before, in_row, rank_in, InFile, Numbered, NumberIfAny}
use Rattle.clause_sizes.specs.Conjunctions.{false_not}
use Rattle.clause_variables.specs.declared.firsts.FirstRow.{FirstRow}
use Rattle.clause_variables.specs.FirstPaths.{FirstPaths}
use Rattle.clause_variables.specs.FirstRows.{Cut, first_at, FirstRowOf, Pathless}
use Rattle.clause_variables.proofs.Laws.{path_lt, path_is}

-- ---- the answer

module _ (z : Sizes) (x : Var) where
  pub no_variable : ¬ (Fitting z × InFile z x) → NumberIfAny z x 0
  no_variable h = record { there = λ f i. absurd (h (f, i)); none = λ n. refl; found = λ l. absurd (omega arith) }

  pub a_variable : {k : ℕ} → Fitting z → InFile z x → Numbered z x k → NumberIfAny z x k
  a_variable f i n = record { there = λ g j. n; none = λ h. absurd (h (f, i)); found = λ l. (f, i) }

-- ---- the counting

-- numbers for the states below v, and the number that comes next
pub record Counted (r : FirstRow) (numbers : List ℕ) (next v : ℕ) : Type 0 where
  pub filled : Filled (first_at r) 16 numbers v
  pub next_is : next ≡ r.first + how_many v (has r.set) * r.width
  pub next_le : next ≤ r.first + v * 256

pub counted_none : (r : FirstRow) (numbers : List ℕ) → length numbers ≡ 16 → Counted r numbers r.first 0
unfolding total
counted_none r numbers e = record { filled = filled_none _ 16 numbers e; next_is = omega arith; next_le = omega arith }

bit_times : (b : Bool) (w : ℕ) → cond b w 0 ≡ bit b * w
bit_times true w = omega arith
bit_times false w = omega arith

pub at_most_all : (b : Bool) (w : ℕ) {x : ℕ} → x ≡ cond b w 0 → x ≤ w
at_most_all true w e = omega arith
at_most_all false w e = omega arith

pub counted_more : (r : FirstRow) (numbers : List ℕ) (next v : ℕ) {b : Bool} {x y : ℕ} → Counted r numbers next v → v < 16 → r.width ≤ 256
    → b ≡ has r.set v → x ≡ cond b next 0 → y ≡ cond b r.width 0 → Counted r (set numbers v x) (next + y) (v + 1)
unfolding total
counted_more r numbers next v {b} {x} {y} C h w e ex ey =
    let k = how_many v (has r.set) in
    let step : y ≡ bit (has r.set v) * r.width = ey ∙ bit_times b r.width ∙ ap (λ t. bit t * r.width) e in
    record {
      filled = filled_more _ 16 numbers v x C.filled h (ex ∙ ap (λ n. cond b n 0) C.next_is ∙ ap (λ t. cond t (r.first + k * r.width) 0) e);
      next_is = rw (add-one v) (omega (arith, C.next_is, step, add-mul k (bit (has r.set v)) r.width));
      next_le = omega (arith, C.next_le, at_most_all b r.width ey);
    }

pub counted_is : {r : FirstRow} {xs ys : List ℕ} {m n v : ℕ} → xs ≡ ys → m ≡ n → Counted r ys n v → Counted r xs m v
counted_is {r} {v} e f = subst₂ (λ xs m. Counted r xs m v) (sym e) (sym f)

-- ---- the members below a number

and_all : (b : Bool) → (b && true) ≡ b
and_all true = refl
and_all false = refl

low_members : (s k v : ℕ) → has (s % 2 ^ k) v ≡ (ltb v k && has s v)
low_members s k v = go (dec_lt v k)
  where
    go : Dec (v < k) → has (s % 2 ^ k) v ≡ (ltb v k && has s v)
    go (yes h) = ap (λ n. has n v) (sym (and_mask s k)) ∙ has_and s (2 ^ k - 1) v ∙ ap (λ b. has s v && b) (has_below k v h) ∙ and_all (has s v) ∙ sym (ap (λ b. b && has s v) (lt-ltb v k h))
    go (no n) = has_past k (s % 2 ^ k) v (mod-lt s (pow_pos k)) (omega arith) ∙ sym (ap (λ b. b && has s v) (le-ltb v k (omega arith)))

pub cut_low : (s k : ℕ) → k < 16 → Cut s k (s % (1 * 2 ^ k % 65536))
cut_low s k h = subst (λ m. Cut s k (s % m)) (sym (shift_is k h)) (record { members = λ v l. low_members s k v })

pub cut_none : (s k : ℕ) → 16 ≤ k → Cut s k s
cut_none s k h = record { members = λ v l. sym (ap (λ b. b && has s v) (lt-ltb v k (omega arith))) }

pub cut_of : {s t k r : ℕ} → s ≡ t → Cut s k r → Cut t k r
cut_of {k} {r} e = subst (λ s. Cut s k r) e

-- ---- the numbers of a row

pub row_numbers : {z : Sizes} (q u p : ℕ) {r : FirstRow} {numbers : List ℕ} → FirstRowOf z q u p r → numbers ≡ table 16 (first_at r) → FirstPaths z q u p numbers
row_numbers {z} q u p {r} R e =
    record { each = λ v h. subst (NumberIfAny z (path q u p v 0 0)) (sym (ap (λ l. get_or l v 0) e ∙ each_at 0 16 (first_at r) v h)) (R.each v h) }

-- ---- no row

pub no_numbers : {z : Sizes} (q u p : ℕ) {numbers : List ℕ} → Pathless z q u p → ((v : ℕ) → v < 16 → get_or numbers v 0 ≡ 0) → FirstPaths z q u p numbers
no_numbers {z} q u p h e = record { each = λ v l. subst (NumberIfAny z (path q u p v 0 0)) (sym (e v l)) (no_variable z (path q u p v 0 0) (h.none v)) }

-- ---- a row

module _ {z : Sizes} (f : Fitting z) where
  -- with b and s for the states before the row and in it
  pub record RowBounds (q p b s : ℕ) : Type 0 where
    pub before_rows : q * z.paths.pairs + b ≤ 16384
    pub rows : z.candidate.states * (q * z.paths.pairs + b) ≤ 16384
    pub columns : p * s ≤ 16384
    pub pair : z.candidate.states * (q * z.paths.pairs + b) + p * s ≤ 16384
    pub both : (z.candidate.states * (q * z.paths.pairs + b) + p * s) * (z.candidate.subsets * z.reference.subsets) ≤ 4194304

  pub row_le : {q p b s : ℕ} → q < z.candidate.states → p < z.candidate.states → b + s ≤ z.paths.pairs → RowBounds q p b s
  row_le {q} {p} {b} {s} hq hp within =
      let n = z.candidate.states in
      let P = z.paths.pairs in
      let low : suc p * s ≤ n * s = mul-le-mul hp (le_refl s) in
      let high : suc q * P ≤ n * P = mul-le-mul hq (le_refl P) in
      let next : n * (suc q * P) ≤ n * (n * P) = mul-le-mul (le_refl n) high in
      let row : n * (b + s) ≤ n * P = mul-le-mul (le_refl n) within in
      let cap : n * P ≤ 2048 = mul-le-mul f.n_le f.pairs_le in
      let caps : n * (n * P) ≤ 16384 = mul-le-mul f.n_le cap in
      let three : n * (q * P + b) + p * s ≤ 16384 = omega arith in
      record {
        before_rows = omega (arith, f.pairs_le);
        rows = omega arith;
        columns = omega arith;
        pair = three;
        both = mul-le-mul three (markings_le f);
      }

  -- the number for v
  module _ (q u p b s members : ℕ) (hq : q < z.candidate.states) (hu : u < z.reference.states) (hp : p < z.candidate.states)
      (within : before z u + in_row z u ≤ z.paths.pairs) (em : Cut (get_or z.paths.sets u 0) z.reference.states members) (eb : b ≡ before z u) (es : s ≡ in_row z u) where
    abbrev row : FirstRow
    row = record {
      set = members;
      width = z.candidate.subsets * z.reference.subsets;
      first = z.marks + (1 + (z.candidate.states * (q * z.paths.pairs + b) + p * s) * (z.candidate.subsets * z.reference.subsets));
    }

    -- all states below a state in the row are below the reference's
    rank_is : (v : ℕ) → v < z.reference.states → how_many v (has members) ≡ rank_in z u v
    rank_is v h =
        how_many_same v (has members) (kept_among z u)
        (λ i l. let k : i < z.reference.states = omega arith in em.members i (omega (arith, f.r_le)) ∙ ap (λ b. b && kept_among z u i) (lt-ltb i z.reference.states k))

    there : (v : ℕ) → v < 16 → has members v ≡ true → NumberIfAny z (path q u p v 0 0) (row.first + how_many v (has members) * row.width)
    there v h t =
        let t : (ltb v z.reference.states && kept_among z u v) ≡ true = sym (em.members v h) ∙ t in
        let hv : v < z.reference.states = ltb-true v z.reference.states (and_left _ _ t) in
        let kept : kept_among z u v ≡ true = and_right (ltb v z.reference.states) _ t in
        let i : InFile z (path q u p v 0 0) = ((hq, hu, hp, hv, pow_pos z.candidate.sets, pow_pos z.reference.sets, kept), within) in
        let k = how_many v (has members) in
        let e = path_is f {b = b} {s = s} {k = k} q u p v 0 0 eb es (rank_is v hv) in
        let l = path_lt f b s k i eb es (rank_is v hv) in
        let same : row.first + k * row.width ≡ z.marks + (1 + (((z.candidate.states * (q * z.paths.pairs + b) + p * s + k) * z.candidate.subsets + 0) * z.reference.subsets + 0)) = omega arith in
        a_variable z _ f i (record { is = same ∙ e; some = omega arith; small = omega (arith, same, l.both, marks_le f) })

    not_there : (v : ℕ) → v < 16 → has members v ≡ false → NumberIfAny z (path q u p v 0 0) 0
    not_there v h t = no_variable z _ (λ (g, ((a, b, c, d, i, j, kept), w)). false_not _ t (em.members v h ∙ and_true (lt-ltb v z.reference.states d) kept))

    pub row_of_first : FirstRowOf z q u p row
    row_of_first = record {
      first_le = omega (arith, marks_le f, (row_le {q = q} {p = p} {b = b} {s = s} hq hp (omega (arith, eb, es, within))).both);
      width_le = markings_le f;
      each = λ v h. on_cond (NumberIfAny z (path q u p v 0 0)) (has members v) _ 0 (there v h) (not_there v h);
    }
