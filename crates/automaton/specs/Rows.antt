-- Laws of numbers in rows of 16: number j of row i stands at i * 16 + j.
use Rattle.std.specs.Prelude.{◌≡◌, List, ℕ, ◌+◌, ◌*◌, ◌/◌, ◌%◌, ◌<◌, length, get_or}
use Rattle.std.proofs.Common.{sym, ◌∙◌, subst, arith, ext_get_or}
use Rattle.std.proofs.Math.Arith.{digits_lt, digits_div, digits_mod}
use Rattle.meaning.specs.CountingLaws.{each_length, each_at}
use Rattle.automaton.specs.Value.{rows}

pub place : (k : ℕ) → k / 16 * 16 + k % 16 ≡ k
place k = omega arith

-- lists that are equal row by row
pub rows_equal : (xs ys : List ℕ) (n : ℕ) → length xs ≡ n * 16 → length ys ≡ n * 16
    → ((i j : ℕ) → i < n → j < 16 → get_or xs (i * 16 + j) 0 ≡ get_or ys (i * 16 + j) 0) → xs ≡ ys
rows_equal xs ys n size-x size-y h = ext_get_or 0 xs ys (size-x ∙ sym size-y)
    (λ k g. subst (λ j. get_or xs j 0 ≡ get_or ys j 0) (place k) (h (k / 16) (k % 16) (omega (arith, size-x)) (omega arith)))

module _ (n : ℕ) (f : ℕ → ℕ → ℕ) where
  pub rows_length : length (rows n f) ≡ n * 16
  rows_length = each_length (n * 16) (λ k. f (k / 16) (k % 16))

  pub rows_place : (k : ℕ) → k < n * 16 → get_or (rows n f) k 0 ≡ f (k / 16) (k % 16)
  rows_place k h = each_at 0 (n * 16) (λ k. f (k / 16) (k % 16)) k h

  pub rows_at : (i j : ℕ) → i < n → j < 16 → get_or (rows n f) (i * 16 + j) 0 ≡ f i j
  rows_at i j hi hj = rows_place (i * 16 + j) (digits_lt hi hj) ∙ simp (digits_div, digits_mod)

  -- a list with these numbers
  pub rows_same : (xs : List ℕ) → length xs ≡ n * 16 → ((k : ℕ) → k < n * 16 → get_or xs k 0 ≡ f (k / 16) (k % 16)) → xs ≡ rows n f
  rows_same xs size h = ext_get_or 0 xs (rows n f) (size ∙ sym rows_length) (λ k g. let l : k < n * 16 = omega (arith, size) in h k l ∙ sym (rows_place k l))
