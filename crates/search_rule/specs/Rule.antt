-- DEFINITIONS: document 01's "The search", with document 02's E2: its rule as functions from state to state.
use Rattle.std.specs.Prelude.{Bool, true, false, cond, ℕ, ◌+◌, ◌-◌, min, ltb, eqb}
use Rattle.automaton.specs.declared.Automaton.{Automaton}
use Rattle.search_rule.specs.declared.Search.{Search}

-- the number of states to ask for, below k of them: "the smaller of r - 1 and 8"; a candidate has at most 8
abbrev pub below : ℕ → ℕ
below k = min (k - 1) 8

-- "It starts at m = s, n = the smaller of r - 1 and 8, best = the reference; with r = 1 it is finished at the start."
abbrev pub fresh : Automaton → Search
fresh a = record {
  reference = a;
  best = a;
  n = below a.states;
  m = a.sets;
  finished = eqb a.states 1;
  «open» = false;
}

-- "Found: best changes, n falls by one; at 0 it finishes."
abbrev pub found : Automaton → Search → Search
found table s = record {
  reference = s.reference;
  best = table;
  n = s.n - 1;
  m = s.m;
  finished = eqb (s.n - 1) 0;
  «open» = s.open;
}

-- E2: "m + 1, at one state below the best but at most 8"; as after a table, at 0 it finishes
abbrev pub risen : Search → Search
risen s = record {
  reference = s.reference;
  best = s.best;
  n = below s.best.states;
  m = s.m + 1;
  finished = eqb (below s.best.states) 0;
  «open» = s.open;
}

-- "it finishes", marked open or not; the last question stays
abbrev pub ended : Bool → Search → Search
ended marked s = record {
  reference = s.reference;
  best = s.best;
  n = s.n;
  m = s.m;
  finished = true;
  «open» = marked;
}

-- E2: ""none" at m leads to m + 1 .. until m = 4 has been tried"; then it finishes
abbrev pub none : Search → Search
none s = cond (ltb s.m 4) (risen s) (ended s.open s)

-- "Unknown: it finishes, marked open."
abbrev pub unknown : Search → Search
unknown s = ended true s
