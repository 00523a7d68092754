-- What the loops of the closure leave. Row u is a set of states that u reaches.
use Rattle.std.specs.Prelude.{◌≡◌, Bool, true, ◌&&◌, ◌||◌, List, ℕ, ◌+◌, ◌*◌, ◌≤◌, ◌<◌, length, get_or}
use Rattle.meaning.specs.Automata.{Aut}
use Rattle.meaning.specs.BitSet.{has}
use Rattle.meaning.specs.Components.{Leads}

-- r has the members of the set, and those of `more` where the test passes
pub record Joined (set more : ℕ) (test : Bool) (r : ℕ) : Type 0 where
  pub is : (v : ℕ) → has r v ≡ (has set v || (test && has more v))

-- v is in row u
abbrev pub in_row : List ℕ → ℕ → ℕ → Type 0
in_row rows u v = has (get_or rows u 0) v ≡ true

-- a row has only what is reached, and: the state itself, where its transitions among the first i cells lead, and what is reached by way of a
-- state below k
pub record Reached (A : Aut) (i k : ℕ) (rows : List ℕ) : Type 0 where
  pub size : length rows ≡ 16
  pub only : (u v : ℕ) → u < A.states → in_row rows u v → Leads A u v
  pub itself : (u : ℕ) → u < A.states → in_row rows u u
  pub steps : (u l : ℕ) → u < A.states → l < A.letters → u * 16 + l < i → in_row rows u (A.step u l)
  pub via : (u j v : ℕ) → u < A.states → j < k → in_row rows u j → in_row rows j v → in_row rows u v

-- the first n rows are those of `old`, with row k where they have k; the others are as they were
pub record Through (k : ℕ) (old : List ℕ) (n : ℕ) (rows : List ℕ) : Type 0 where
  pub size : length rows ≡ 16
  pub done : (u v : ℕ) → u < n → has (get_or rows u 0) v ≡ (has (get_or old u 0) v || (has (get_or old u 0) k && has (get_or old k 0) v))
  pub left : (u : ℕ) → n ≤ u → get_or rows u 0 ≡ get_or old u 0

-- for each automaton with so many states whose rows `old` are: the rows have what is reached by way of a state below k
pub record Closed (states : ℕ) (old : List ℕ) (k : ℕ) (rows : List ℕ) : Type 0 where
  pub size : length rows ≡ 16
  pub reached : (A : Aut) → A.states ≡ states → Reached A 256 0 old → Reached A 256 k rows
