-- DEFINITIONS: the variables of a file of given sizes, and their numbers, by the counts and the rows that the sizes hold. That they are those of the named file
-- is proved in `SizedNumbers`.
use Rattle.std.specs.Prelude.{◌≡◌, Bool, true, false, ℕ, ◌+◌, ◌*◌, ◌^◌, ◌≤◌, ◌<◌, get_or}
use Rattle.meaning.specs.Automata.{Aut}
use Rattle.meaning.specs.BitSet.{has}
use Rattle.meaning.specs.Counting.{total, how_many}
use Rattle.encoding.specs.Variables.{Task, Var, step, mark, path, PathBlock, Present, transition_marks, number, variables}
use Rattle.clause_rows.specs.Rows.{held}
use Rattle.clause_sizes.specs.declared.Sizes.{Sizes}
use Rattle.clause_sizes.specs.Sizes.{Fitting}

-- an automaton with the reference's counts
abbrev pub counted : Sizes → Aut
counted z = record {
  states = z.reference.states;
  letters = z.letters;
  sets = z.reference.sets;
  start = 0;
  step = λ q l. 0;
  marks = λ q l i. false;
  accept = λ S. true;
}

-- u has path variables to v
abbrev pub kept_among : Sizes → ℕ → ℕ → Bool
kept_among z u v = has (get_or z.paths.sets u 0) v

abbrev pub task_in : Sizes → Task
task_in z = record { reference = counted z; n = z.candidate.states; m = z.candidate.sets; accept = λ S. true; kept = kept_among z }

-- the states before row u, those in it, and those in it below v
module _ (z : Sizes) where
  abbrev pub before : ℕ → ℕ
  before u = get_or z.paths.before u 0

  abbrev pub in_row : ℕ → ℕ
  in_row u = held z.paths.sets u

  abbrev pub rank_in : ℕ → ℕ → ℕ
  rank_in u v = how_many v (kept_among z u)

  abbrev pub paths_in : PathBlock
  paths_in =
      let n = z.candidate.states in
      let A = 2 ^ z.candidate.sets in
      let B = 2 ^ z.reference.sets in
      record {
        size = n * n * z.paths.pairs * A * B;
        place = λ q u p v I J. ((n * (q * z.paths.pairs + before u) + p * in_row u + rank_in u v) * A + I) * B + J;
      }

-- the rows hold the states that are kept
pub record Rowed (z : Sizes) (kept : ℕ → ℕ → Bool) : Type 0 where
  pub sets_are : (u v : ℕ) → u < z.reference.states → v < z.reference.states → kept_among z u v ≡ kept u v
  pub held_are : (u : ℕ) → u < z.reference.states → in_row z u ≡ how_many z.reference.states (kept u)
  pub before_is : (u : ℕ) → u < z.reference.states → before z u ≡ total u (λ i. how_many z.reference.states (kept i))
  pub pairs_is : z.paths.pairs ≡ total z.reference.states (λ i. how_many z.reference.states (kept i))

-- there is such a variable: its indices are in their ranges, and of a path the row lies among the pairs
abbrev pub InFile : Sizes → Var → Type 0
InFile z (step q l p) = Present (task_in z) (step q l p)
InFile z (mark q l i p) = Present (task_in z) (mark q l i p)
InFile z (path q u p v I J) = Present (task_in z) (path q u p v I J) × (before z u + in_row z u ≤ z.paths.pairs)

abbrev pub number_of : Sizes → Var → ℕ
number_of z = number (task_in z) (transition_marks (task_in z)) (paths_in z)

-- V
abbrev pub last_variable : Sizes → ℕ
last_variable z = variables (task_in z) (transition_marks (task_in z)) (paths_in z)

-- k is the number of x, from 1 to the largest that any file has
pub record Numbered (z : Sizes) (x : Var) (k : ℕ) : Type 0 where
  pub is : k ≡ number_of z x
  pub some : 0 < k
  pub small : k ≤ 4_199_424

-- on all input: the number, or 0 where there is no such variable, or no file of these sizes
pub record NumberIfAny (z : Sizes) (x : Var) (k : ℕ) : Type 0 where
  pub there : Fitting z → InFile z x → Numbered z x k
  pub none : ¬ (Fitting z × InFile z x) → k ≡ 0
  pub found : 0 < k → Fitting z × InFile z x

-- on all input: V, or 0 where there is no file of these sizes
pub record LastIfAny (z : Sizes) (k : ℕ) : Type 0 where
  pub there : Fitting z → k ≡ last_variable z
  pub none : ¬ Fitting z → k ≡ 0
  pub small : k ≤ 4_199_424
