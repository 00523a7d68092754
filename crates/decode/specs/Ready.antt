-- What the functions behind the decoder are called with.
use Rattle.std.specs.Prelude.{◌≡◌, List, ℕ}
use Rattle.automaton.specs.declared.Automaton.{Automaton}
use Rattle.automaton.specs.Value.{Valid}
use Rattle.clause_sizes.specs.declared.Sizes.{Sizes}

-- two automata that can be compared
pub record Comparable (a b : Automaton) : Type 0 where
  pub valid_a : Valid a
  pub valid_b : Valid b
  pub same_propositions : a.propositions ≡ b.propositions

-- a table with the propositions of the reference and the named acceptance
abbrev pub candidate : Automaton → Sizes → List ℕ → List ℕ → Automaton
candidate a z destinations marks = record {
  states = z.candidate.states;
  start = 0;
  propositions = a.propositions;
  sets = z.candidate.sets;
  acceptance = z.candidate.acceptance;
  lengths = a.lengths;
  names = a.names;
  destinations = destinations;
  marks = marks;
}
