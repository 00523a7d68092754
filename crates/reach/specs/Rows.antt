-- DEFINITION: the strongly connected components of an automaton, as sets of states.
use Rattle.std.specs.Prelude.{◌≡◌, cond, List, ℕ, ltb, replicate}
use Rattle.meaning.specs.BitSet.{set_of}
use Rattle.meaning.specs.Components.{together}
use Rattle.automaton.specs.declared.Automaton.{Automaton}
use Rattle.automaton.specs.Value.{Valid, table}
use Rattle.automaton.specs.View.{view}

-- the states that lie in one component with u, as a set; none where u is no state
abbrev pub component_row : Automaton → ℕ → ℕ
component_row a u = cond (ltb u a.states) (set_of a.states (together (view a) u)) 0

-- on all input: row u is that set; no state where the value lies outside "The automaton"
pub record ComponentsIfAny (a : Automaton) (r : List ℕ) : Type 0 where
  pub there : Valid a → r ≡ table 16 (component_row a)
  pub none : ¬ Valid a → r ≡ replicate 16 0
