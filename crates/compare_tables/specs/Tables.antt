-- DEFINITION: an automaton given by tables.
use Rattle.std.specs.Prelude.{List, ℕ, ◌+◌, ◌*◌, ◌<◌, get_or}

-- An automaton has a table of destinations and a table of sets of marks, with an entry for each state and letter. A set is a number: bit i for
-- the acceptance set i.
abbrev pub entry : List ℕ → ℕ → ℕ → ℕ
entry table q l = get_or table (q * 16 + l) 0

-- each entry is below c
abbrev pub Below : ℕ → List ℕ → Type 0
Below c table = (q l : ℕ) → q < 16 → l < 16 → entry table q l < c

-- an automaton with states and sets of marks below 16: "1 to 16" states, "0 to 4" sets
pub record InRange (next marks : List ℕ) (start : ℕ) : Type 0 where
  pub next_lt : Below 16 next
  pub marks_lt : Below 16 marks
  pub start_lt : start < 16
