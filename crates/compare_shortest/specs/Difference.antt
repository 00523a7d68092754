-- DEFINITION, 1 of 2: two automata given by tables, and the words that show that they differ.
use Rattle.std.specs.Prelude.{◌≡◌, ◌≢◌, List, [], ◌∷◌, ℕ, ◌≤◌}
use Rattle.std.specs.Int.Bits.{bit_or}
use Rattle.meaning.specs.Walk.{run}
use Rattle.meaning.specs.Agreement.{Over}
use Rattle.compare_tables.specs.Tables.{entry, InRange}

-- "a set is met when the transition taken carries it": the sets met along the word w from the state q
abbrev pub met : List ℕ → List ℕ → ℕ → List ℕ → ℕ
met next marks q [] = 0
met next marks q (l ∷ w) = bit_or (entry marks q l) (met next marks (entry next q l) w)

-- A lasso word of the prefix x and the loop y, over L letters, shows that two automata differ: from the states that x leads to, "the loop, read
-- once, brings both automata back to where it began", and H is not 0 at the sets that the two meet along it. H has an entry for each two sets
-- of marks: not 0 where one automaton accepts and the other does not.
pub record Shows (next-A marks-A next-B marks-B H : List ℕ) (L s t : ℕ) (x y : List ℕ) : Type 0 where
  pub over_x : Over L x
  pub over_y : Over L y
  pub some : y ≢ []
  pub closed_A : run (entry next-A) (run (entry next-A) s x) y ≡ run (entry next-A) s x
  pub closed_B : run (entry next-B) (run (entry next-B) t x) y ≡ run (entry next-B) t x
  pub hit : entry H (met next-A marks-A (run (entry next-A) s x) y) (met next-B marks-B (run (entry next-B) t x) y) ≢ 0

-- the tables and the starts are those of two automata, over at most 16 letters
pub record Fit (next-A marks-A next-B marks-B : List ℕ) (L s t : ℕ) : Type 0 where
  pub first : InRange next-A marks-A s
  pub second : InRange next-B marks-B t
  pub letters : L ≤ 16
