-- DEFINITIONS: what a call for a batch of lines answers and leaves in the buffer, for the reference a and the target τ at position x, on all input.
use Rattle.std.specs.Prelude.{◌≡◌, List, ℕ, ◌≤◌, length, Option, Some, None, Result, Ok, Err}
use Rattle.automaton.specs.declared.Automaton.{Automaton}
use Rattle.refusals.specs.declared.Refusal.{Refusal}
use Rattle.clause_sizes.specs.declared.Target.{Target}
use Rattle.clause_sizes.specs.Targets.{task, numbers}
use Rattle.clause_step.specs.declared.Handed.{Handed}
use Rattle.clause_step.specs.Step.{TurnedDown, Accepted, returned}
use Rattle.clause_text.specs.Filling.{Filling}

module _ (a : Automaton) (τ : Target) (x : ℕ) (d e : List ℕ) where
  -- one line or more, or none where no clause is left
  abbrev pub Batch : (k y : ℕ) → Type 0
  Batch k y = Filling (task a τ) (numbers a τ) x d e k y

  abbrev pub BatchFound : Option ℕ → (y : ℕ) → Type 0
  BatchFound (Some k) y = Batch k y × (1 ≤ k)
  BatchFound None y = Batch 0 y

  abbrev pub BatchStepped : Result Handed Refusal → Type 0
  BatchStepped (Ok h) = Accepted 80 (length d) a τ x × BatchFound h.written h.position
  BatchStepped (Err f) = TurnedDown 80 (length d) a τ x f (returned (Err f)) × (e ≡ d)
