-- A test of an assignment and a list of clauses: where it passes, the assignment satisfies them.
use Rattle.std.specs.Prelude.{Bool, true, false, ◌&&◌, ◌||◌, List, [], ◌∷◌, ℤ}
use Rattle.encoding.specs.Clauses.{Assignment, holds}

-- a literal of the clause holds
abbrev pub clause_tested : Assignment → List ℤ → Bool
clause_tested ν [] = false
clause_tested ν (x ∷ c) = holds ν x || clause_tested ν c

-- in each of the clauses
abbrev pub tested : Assignment → List (List ℤ) → Bool
tested ν [] = true
tested ν (c ∷ cs) = clause_tested ν c && tested ν cs
