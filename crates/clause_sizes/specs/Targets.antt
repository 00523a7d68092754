-- DEFINITIONS: what the caller names for a file beside the reference, as a value; and the clauses, the numbers and the variables of the file for a
-- reference. Nothing above says what they are made of.
use Rattle.std.specs.Prelude.{List, ℕ, ◌≤◌, ℤ}
use Rattle.acceptance.specs.Masks.{every_set, OwnSets}
use Rattle.automaton.specs.declared.Automaton.{Automaton}
use Rattle.automaton.specs.View.{view}
use Rattle.encoding.specs.Variables.{Task, Var}
use Rattle.encoding.specs.Named as naming
use Rattle.encoding.specs.Named.{Named, first, second, task_for, number_for, variables_for, table_variables_for, file_for}
use Rattle.clause_sizes.specs.declared.Listing.{Listing}
use Rattle.clause_sizes.specs.declared.Listing.TheVariants.{First, Second}
use Rattle.clause_sizes.specs.declared.Target.{Target}

abbrev pub which : Listing → naming.Listing
which First = first
which Second = second

abbrev pub named : Target → Named
named τ = record { n = τ.states; m = τ.sets; acceptance = τ.acceptance; listing = which τ.listing }

-- Inf of all sets, and the first list: "search and clause program use Inf of all"
abbrev pub every : ℕ → ℕ → Target
every n m = record { states = n; sets = m; acceptance = every_set m; listing = First }

-- the same with another list: "the caller names which"
abbrev pub listed : Target → Listing → Target
listed τ w = record { states = τ.states; sets = τ.sets; acceptance = τ.acceptance; listing = w }

-- "Candidate: n states (1 to 8), m sets (0 to 4)"
pub record Dimensioned (τ : Target) : Type 0 where
  pub n_some : 1 ≤ τ.states
  pub n_le : τ.states ≤ 8
  pub m_le : τ.sets ≤ 4

-- there is a file for it: its counts are such, and no "yes past m"
pub record Proper (τ : Target) : Type 0 where
  pub dimensioned : Dimensioned τ
  pub sets_owned : OwnSets τ.acceptance τ.sets

module _ (a : Automaton) (τ : Target) where
  abbrev pub task : Task
  task = task_for (view a) (named τ)

  abbrev pub numbers : Var → ℕ
  numbers = number_for (view a) (named τ)

  -- V
  abbrev pub last : ℕ
  last = variables_for (view a) (named τ)

  -- the step and mark variables are those up to this number
  abbrev pub kept : ℕ
  kept = table_variables_for (view a) (named τ)

  abbrev pub file : List (List ℤ)
  file = file_for (view a) (named τ)
