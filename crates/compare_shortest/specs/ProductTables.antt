-- The tables of the product of two automata, filled entry by entry.
use Rattle.std.specs.Prelude.{◌≡◌, List, ℕ, ◌+◌, ◌*◌, ◌/◌, ◌%◌, ◌≤◌, ◌<◌, length, set}
use Rattle.std.proofs.Common.{ap, ap₂, ◌∙◌, subst, arith, length-set}
use Rattle.meaning.specs.CountingLaws.{filled_next}
use Rattle.compare_shortest.specs.Graph.{at}
use Rattle.compare_tables.specs.Tables.{Below}

-- the entries of two tables for the number i of a pair of states and a letter, as one number
abbrev pub pair_at : List ℕ → List ℕ → ℕ → ℕ
pair_at A B i = at A (i / 256 * 16 + i % 16) * 16 + at B (i / 16 % 16 * 16 + i % 16)

-- the first n entries of the table of the steps without marks, and of that with marks
pub record Tables (next-A marks-A next-B marks-B plain table : List ℕ) (n : ℕ) : Type 0 where
  pub plain_size : length plain ≡ 4096
  pub table_size : length table ≡ 4096
  pub plain_at : (i : ℕ) → i < n → at plain i ≡ pair_at next-A next-B i * 256
  pub table_at : (i : ℕ) → i < n → at table i ≡ pair_at next-A next-B i * 256 + pair_at marks-A marks-B i

pub pair_lt : (A B : List ℕ) → Below 16 A → Below 16 B → (i : ℕ) → i < 4096 → pair_at A B i < 256
pair_lt A B a b i h = omega (arith, a (i / 256) (i % 16) (omega arith) (omega arith), b (i / 16 % 16) (i % 16) (omega arith) (omega arith))

pub tables_none : {na ma nb mb plain table : List ℕ} → length plain ≡ 4096 → length table ≡ 4096 → Tables na ma nb mb plain table 0
tables_none hp ht = record { plain_size = hp; table_size = ht; plain_at = λ i h. absurd (omega arith); table_at = λ i h. absurd (omega arith) }

pub tables_more : {na ma nb mb plain table : List ℕ} {i p m : ℕ} → Tables na ma nb mb plain table i → i < 4096 → p ≡ pair_at na nb i → m ≡ pair_at ma mb i
    → Tables na ma nb mb (set plain i (p * 256)) (set table i (p * 256 + m)) (i + 1)
tables_more {na} {ma} {nb} {mb} {plain} {table} {i} {p} {m} T h ep em = record {
  plain_size = length-set plain i (p * 256) ∙ T.plain_size;
  table_size = length-set table i (p * 256 + m) ∙ T.table_size;
  plain_at = filled_next plain (λ k. pair_at na nb k * 256) i (p * 256) (omega (arith, T.plain_size)) T.plain_at (ap (λ x. x * 256) ep);
  table_at = filled_next table (λ k. pair_at na nb k * 256 + pair_at ma mb k) i (p * 256 + m) (omega (arith, T.table_size)) T.table_at (ap₂ (λ x y. x * 256 + y) ep em);
}

pub tables_all : {na ma nb mb plain table : List ℕ} {i n : ℕ} → Tables na ma nb mb plain table i → i ≤ n → n ≤ i → Tables na ma nb mb plain table n
tables_all {na} {ma} {nb} {mb} {plain} {table} {i} {n} T h g = let e : i ≡ n = omega arith in subst (Tables na ma nb mb plain table) e T
