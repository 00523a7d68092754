-- DEFINITIONS: the clauses from a position on, and the next clause. A position counts the places of the list in which group 4 still has
-- those that it leaves out; at each stands one clause or none.
use Rattle.std.specs.Prelude.{List, [], ◌∷◌, ℕ, zero, suc, ◌+◌, ◌-◌, ℤ}
use Rattle.encoding.specs.Variables.{Task, Var}
use Rattle.encoding.specs.Clauses.{each}
use Rattle.encoding.specs.Positions.{positions, at_position}

-- a clause and the position after it; or no clause any more, and the position then
pub data Found : Type 0 where
  handed : List ℤ → ℕ → Found
  ended : ℕ → Found

-- the clause that stands at a position, or else what is found after it
abbrev pub here_or : List (List ℤ) → ℕ → Found → Found
here_or [] next later = later
here_or (c ∷ cs) next later = handed c next

-- the first clause at one of the k positions from x on
abbrev pub search_from : (ℕ → List (List ℤ)) → ℕ → ℕ → Found
search_from at zero x = ended x
search_from at (suc k) x = let later = search_from at k (x + 1) in here_or (at x) (x + 1) later

module _ (T : Task) (num : Var → ℕ) where
  -- the first clause from position x on
  unfoldable pub next_clause : ℕ → Found
  next_clause x = search_from (at_position T num) (positions T num - x) x

  -- all clauses from position x on
  unfoldable pub clauses_from : ℕ → List (List ℤ)
  clauses_from x = each (positions T num - x) (λ i. at_position T num (x + i))
