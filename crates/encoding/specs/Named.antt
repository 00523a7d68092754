-- DEFINITIONS, 3 of 3: what the caller names for a clause file beside the reference, and the file for it: "the same reference, n and m, the same of
-- whatever else the caller names for the file". That is n, m, the candidate's acceptance and which of the two lists. The clauses, the numbers, V and the kind of tables are said
-- here and nowhere else.
use Rattle.std.specs.Prelude.{Bool, true, List, ℕ, ◌+◌, ◌*◌, ℤ}
use Rattle.meaning.specs.Automata.{Aut}
use Rattle.meaning.specs.BitSet.{has, set_of}
use Rattle.meaning.specs.Components.{together}
use Rattle.encoding.specs.Variables.{Task, Var, MarkBlock, PathBlock, transition_marks, all_paths, kept_paths, number, variables}
use Rattle.encoding.specs.Clauses.{file}

-- "The 2015 clause list beside the first .. the caller names which" (document 02, E6)
pub data Listing : Type 0 where
  first : Listing
  second : Listing

-- where there are path variables from u to v: everywhere, or "only where both reference states lie in one strongly connected component"
abbrev pub kept_by : Listing → Aut → ℕ → ℕ → Bool
kept_by first R u v = true
kept_by second R u v = together R u v

-- their numbers: all of them, or those that there are
abbrev pub paths_by : Listing → Task → PathBlock
paths_by first T = all_paths T
paths_by second T = kept_paths T

-- "n states (1 to 8), m sets (0 to 4)"; "The caller names the candidate's acceptance", as "the yes or no for each set of marks": bit M for the set of marks M
pub record Named : Type 0 where
  pub n : ℕ
  pub m : ℕ
  pub acceptance : ℕ
  pub listing : Listing

-- every choice of marks is of the kind
abbrev pub AnyMarks : (ℕ → ℕ → ℕ → Bool) → Type 0
AnyMarks μ = Unit {0}

-- the tables that the file speaks of, by their marks: "Each state and letter has one transition, with a destination and a set of marks"
abbrev pub KindFor : Named → (ℕ → ℕ → ℕ → Bool) → Type 0
KindFor t = AnyMarks

module _ (R : Aut) (t : Named) where
  -- the candidate accepts as named, and there are the path variables of the named list
  abbrev pub task_for : Task
  task_for = record { reference = R; n = t.n; m = t.m; accept = λ S. has t.acceptance (set_of t.m S); kept = kept_by t.listing R }

  -- a mark for each transition
  abbrev pub marks_for : MarkBlock
  marks_for = transition_marks task_for

  abbrev pub paths_for : PathBlock
  paths_for = paths_by t.listing task_for

  abbrev pub number_for : Var → ℕ
  number_for = number task_for marks_for paths_for

  -- how many step and mark variables there are: they come first, and tell the table
  abbrev pub table_variables_for : ℕ
  table_variables_for = t.n * t.n * R.letters + marks_for.size

  -- "The header is `p cnf V C`": V, "the last", and C is the length of the file
  abbrev pub variables_for : ℕ
  variables_for = variables task_for marks_for paths_for

  abbrev pub file_for : List (List ℤ)
  file_for = file task_for number_for
