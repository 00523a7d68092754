-- DEFINITIONS: the candidates, and those that are looked for.
use Rattle.std.specs.Prelude.{◌≡◌, ℕ, ◌<◌}
use Rattle.meaning.specs.Agreement.{Agree}
use Rattle.automaton.specs.declared.Automaton.{Automaton}
use Rattle.automaton.specs.Value.{Valid, name}
use Rattle.automaton.specs.View.{view}
use Rattle.encoding.specs.Named.{KindFor}
use Rattle.clause_sizes.specs.declared.Target.{Target}
use Rattle.clause_sizes.specs.Targets.{named}

-- "Candidate: n states (1 to 8), m sets (0 to 4), start 0", of the kind that the file speaks of, and "proposition names are the reference's". "The
-- caller names the candidate's acceptance .., and demand 3 speaks of the automata that carry it".
pub record Candidate (a : Automaton) (τ : Target) (C : Automaton) : Type 0 where
  pub valid : Valid C
  pub states : C.states ≡ τ.states
  pub sets : C.sets ≡ τ.sets
  pub acceptance : C.acceptance ≡ τ.acceptance
  pub start : C.start ≡ 0
  pub kind : KindFor (named τ) (view C).marks
  pub propositions : C.propositions ≡ a.propositions
  pub names : (i : ℕ) → i < a.propositions → name C i ≡ name a i

-- one that agrees with the reference on every lasso word
pub record Found (a : Automaton) (τ : Target) (C : Automaton) : Type 0 where
  pub candidate : Candidate a τ C
  pub agrees : Agree (view C) (view a)
