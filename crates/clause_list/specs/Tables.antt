-- DEFINITIONS: the reference as the functions here get it: its counts among the sizes, and its start and its two tables beside them.
use Rattle.std.specs.Prelude.{ℕ, ◌+◌, ◌*◌, ◌^◌, ◌<◌, List, get_or}
use Rattle.meaning.specs.Automata.{Aut}
use Rattle.meaning.specs.BitSet.{has, set_of}
use Rattle.encoding.specs.Variables.{Task, path}
use Rattle.encoding.specs.Named.{task_for}
use Rattle.clause_sizes.specs.declared.Sizes.{Sizes}
use Rattle.clause_sizes.specs.Sizes.{Fitting, target_of}
use Rattle.clause_sizes.specs.Targets.{named}
use Rattle.clause_sizes.specs.Numbers.{Rowed, InFile}

abbrev pub tabled : Sizes → ℕ → List ℕ → List ℕ → Aut
tabled z start destinations marks = record {
  states = z.reference.states;
  letters = z.letters;
  sets = z.reference.sets;
  start = start;
  step = λ u l. get_or destinations (u * 16 + l) 0;
  marks = λ u l. has (get_or marks (u * 16 + l) 0);
  accept = λ S. has z.reference.acceptance (set_of z.reference.sets S);
}

abbrev pub task_of : Sizes → ℕ → List ℕ → List ℕ → Task
task_of z start destinations marks = task_for (tabled z start destinations marks) (named (target_of z))

-- destinations are states
abbrev pub StepsWithin : Sizes → List ℕ → Type 0
StepsWithin z destinations = (u l : ℕ) → u < z.reference.states → l < z.letters → get_or destinations (u * 16 + l) 0 < z.reference.states

-- the empty paths from each candidate and reference state are there
abbrev pub NodePaths : Sizes → Type 0
NodePaths z = (q u : ℕ) → q < z.candidate.states → u < z.reference.states → InFile z (path q u q u 0 0)

-- destinations are states, marks are sets that there are, and the rows hold the states between which the named list has paths, whatever the start is
pub record Tables (z : Sizes) (destinations marks : List ℕ) : Type 0 where
  pub fits : Fitting z
  pub step_lt : StepsWithin z destinations
  pub rowed : (start : ℕ) → Rowed z (task_of z start destinations marks).kept
  pub marks_lt : (u l : ℕ) → u < z.reference.states → l < z.letters → get_or marks (u * 16 + l) 0 < 2 ^ z.reference.sets
