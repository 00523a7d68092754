-- EXAMPLES: two automata of document 01's decks.
use Rattle.std.specs.Prelude.{[], ◌∷◌, ◌++◌, replicate}
use Rattle.automaton.specs.declared.Automaton.{Automaton}

-- the first deck's automaton
abbrev pub one_state : Automaton
one_state = record {
  states = 1;
  start = 0;
  propositions = 0;
  sets = 1;
  acceptance = 2;
  lengths = replicate 4 0;
  names = replicate 64 0;
  destinations = replicate 256 0;
  marks = replicate 256 0;
}

-- "a and b both for ever"
abbrev pub both_for_ever : Automaton
both_for_ever = record {
  states = 1;
  start = 0;
  propositions = 2;
  sets = 2;
  acceptance = 8;
  lengths = 1 ∷ 1 ∷ 0 ∷ 0 ∷ [];
  names = (97 ∷ replicate 15 0) ++ ((98 ∷ replicate 15 0) ++ replicate 32 0);
  destinations = replicate 256 0;
  marks = 0 ∷ 1 ∷ 2 ∷ 3 ∷ replicate 252 0;
}
