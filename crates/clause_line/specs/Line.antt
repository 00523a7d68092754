-- DEFINITIONS: what a call for a line answers and leaves in the buffer, for the reference a and the target τ at position x, on all input.
use Rattle.std.specs.Prelude.{◌≡◌, List, ℕ, ℤ, length, Option, Some, None, Result, Ok, Err}
use Rattle.automaton.specs.declared.Automaton.{Automaton}
use Rattle.refusals.specs.declared.Refusal.{Refusal}
use Rattle.decimal.specs.Wrote.{Wrote}
use Rattle.clause_sizes.specs.declared.Target.{Target}
use Rattle.clause_list.specs.Next.{handed, ended}
use Rattle.clause_step.specs.declared.Handed.{Handed}
use Rattle.clause_step.specs.Step.{TurnedDown, Accepted, returned, found_from}
use Rattle.clause_words.specs.Text.{line_text}

-- the text of the clause that the clause step would hand out
module _ (a : Automaton) (τ : Target) (x : ℕ) (d e : List ℕ) where
  abbrev pub LineFound : Option ℕ → (y : ℕ) → Type 0
  LineFound (Some k) y = (c : List ℤ) × (found_from a τ x ≡ handed c y) × Wrote d 0 (line_text c) e k
  LineFound None y = (found_from a τ x ≡ ended y) × (e ≡ d)

  abbrev pub LineStepped : Result Handed Refusal → Type 0
  LineStepped (Ok h) = Accepted 80 (length d) a τ x × LineFound h.written h.position
  LineStepped (Err f) = TurnedDown 80 (length d) a τ x f (returned (Err f)) × (e ≡ d)
