-- DEFINITIONS of acceptances as masks: bit M says yes or no for the set of marks M. Sentences in quotes are the documents'.
use Rattle.std.specs.Prelude.{Bool, ℕ, ◌-◌, ◌^◌, ◌<◌, min, leb}

-- "a run is accepting if every set is met infinitely often": yes for all sets together only; past 4 sets that of 4
abbrev pub every_set : ℕ → ℕ
every_set sets = 2 ^ (2 ^ min sets 4 - 1)

-- "all-true": yes for every set of marks
abbrev pub all_true : ℕ → ℕ
all_true sets = 2 ^ (2 ^ min sets 4) - 1

-- "the yes or no for each set of marks (no past its sets ..)"
abbrev pub OwnSets : ℕ → ℕ → Type 0
OwnSets acceptance sets = acceptance < 2 ^ (2 ^ sets)

-- the same as a test; past 4 sets that of 4
abbrev pub own_sets : ℕ → ℕ → Bool
own_sets acceptance sets = leb acceptance (all_true sets)
