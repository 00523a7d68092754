-- DEFINITIONS, 1 of 3: the variables of a clause file and their numbers. Document 01, "Variables, from 1", whose words and letters stand in
-- quotes. They are those of S. Baarir and A. Duret-Lutz, "SAT-based Minimization of Deterministic ω-Automata" (LPAR 2015), section 2.2.
use Rattle.std.specs.Prelude.{◌≡◌, Bool, true, ◌&&◌, ℕ, ◌+◌, ◌*◌, ◌/◌, ◌%◌, ◌^◌, ◌<◌}
use Rattle.meaning.specs.Automata.{Aut}
use Rattle.meaning.specs.Counting.{total, how_many}

-- ---- what a clause file is made for

-- The reference; the candidate's n states, m sets and acceptance; and whether there are path variables from the reference state u to v.
pub record Task : Type 0 where
  pub reference : Aut
  pub n : ℕ
  pub m : ℕ
  pub accept : (ℕ → Bool) → Bool
  pub kept : ℕ → ℕ → Bool

-- ---- counts

-- how many u, v and l there are for which both paths of group 3's clauses are kept: those to v, and to w, "the reference's step from the named state by l"
abbrev pub sharing : Task → ℕ
sharing T =
    let R = T.reference in
    total R.states (λ u. total R.states (λ v. how_many R.letters (λ l. T.kept u v && T.kept u (R.step v l))))

-- ---- "Variables, from 1"

-- q and p are candidate states, l is a letter, i a candidate set. "u, v are reference states; I, J are sets of candidate and reference
-- marks, bit i for set i."
pub data Var : Type 0 where
  step : (q l p : ℕ) → Var
  mark : (q l i p : ℕ) → Var
  path : (q u p v I J : ℕ) → Var

-- Marks and paths have a block of numbers each: how many, and the place of a variable in the block, from 0.
pub record MarkBlock : Type 0 where
  pub size : ℕ
  pub place : (q l i p : ℕ) → ℕ

pub record PathBlock : Type 0 where
  pub size : ℕ
  pub place : (q u p v I J : ℕ) → ℕ

module _ (T : Task) where
  abbrev n : ℕ
  n = T.n

  abbrev m : ℕ
  m = T.m

  abbrev r : ℕ
  r = T.reference.states

  abbrev s : ℕ
  s = T.reference.sets

  abbrev L : ℕ
  L = T.reference.letters

  -- the variables that there are
  abbrev pub Present : Var → Type 0
  Present (step q l p) = (q < n) × (l < L) × (p < n)
  Present (mark q l i p) = (q < n) × (l < L) × (i < m) × (p < n)
  Present (path q u p v I J) = (q < n) × (u < r) × (p < n) × (v < r) × (I < 2 ^ m) × (J < 2 ^ s) × (T.kept u v ≡ true)

  -- "mark(q,l,i,p): .. ((qL + l)m + i)n + p", of the "nnLm marks"
  abbrev pub transition_marks : MarkBlock
  transition_marks = record { size = n * n * L * m; place = λ q l i p. ((q * L + l) * m + i) * n + p }

  -- "path(q,u,p,v,I,J): .. ((((qr + u)n + p)r + v)2^m + I)2^s + J"
  abbrev pub all_paths : PathBlock
  all_paths = record {
    size = n * r * n * r * 2 ^ m * 2 ^ s;
    place = λ q u p v I J. ((((q * r + u) * n + p) * r + v) * 2 ^ m + I) * 2 ^ s + J;
  }

  -- whether the path at the place k of all paths is kept, by its u and its v
  abbrev pub kept_at : ℕ → Bool
  kept_at k = T.kept (k / 2 ^ s / 2 ^ m / r / n % r) (k / 2 ^ s / 2 ^ m % r)

  -- "Absent path variables are skipped and the numbers close up" (document 02, E6): the place of a path is the number of those before it that are kept
  abbrev pub kept_paths : PathBlock
  kept_paths = record {
    size = how_many all_paths.size kept_at;
    place = λ q u p v I J. how_many (all_paths.place q u p v I J) kept_at;
  }

  -- "step(q,l,p): 1 + (qL + l)n + p"; a mark "after the nnL steps, 1 + .."; a path "after those nnLm marks, 1 + .."
  abbrev pub number : MarkBlock → PathBlock → Var → ℕ
  number M P (step q l p) = 1 + (q * L + l) * n + p
  number M P (mark q l i p) = n * n * L + (1 + M.place q l i p)
  number M P (path q u p v I J) = n * n * L + M.size + (1 + P.place q u p v I J)

  -- "V, the last"
  abbrev pub variables : MarkBlock → PathBlock → ℕ
  variables M P = n * n * L + M.size + P.size
