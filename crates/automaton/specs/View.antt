-- DEFINITION: a value as an automaton of `meaning`.
use Rattle.meaning.specs.BitSet.{has, set_of}
use Rattle.meaning.specs.Automata.{Aut}
use Rattle.automaton.specs.declared.Automaton.{Automaton}
use Rattle.automaton.specs.Value.{letters, destination, mark_set}

-- bit i of a set of marks is the set i, and bit M of the acceptance its answer for the set of marks M
abbrev pub view : Automaton → Aut
view a = record {
  states = a.states;
  letters = letters a;
  sets = a.sets;
  start = a.start;
  step = destination a;
  marks = λ q l. has (mark_set a q l);
  accept = λ S. has a.acceptance (set_of a.sets S);
}
