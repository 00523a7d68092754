-- Sizes of the tables of a search, as src/lib.rt derives them from the automaton's bounds.
use Rattle.std.specs.Prelude.{ℕ}

-- pairs of states
abbrev pub pair_count : ℕ
pair_count = 256

-- pairs of sets of marks
abbrev pub hit_count : ℕ
hit_count = 256

abbrev pub step_count : ℕ
step_count = 4096

abbrev pub node_count : ℕ
node_count = 65536

abbrev pub place_count : ℕ
place_count = 65538
