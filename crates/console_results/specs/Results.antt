-- DEFINITION: what is handed over of an automaton.
use Rattle.std.specs.Prelude.{◌≡◌, ℕ, length, Result, Ok, Err}
use Rattle.automaton.specs.declared.Automaton.{Automaton}
use Rattle.automaton.specs.Value.{Valid}
use Rattle.refusals.specs.declared.Refusal.{Refusal}
use Rattle.refusals.specs.declared.Refusal.TheVariants.{Outside}
use Rattle.hoa_text.specs.Written.{text}

-- the length of its text, or 4 where it is none that HOA could give
pub record HandsAutomaton (a : Automaton) (r : Result ℕ Refusal) : Type 0 where
  pub written : Valid a → r ≡ Ok (length (text a))
  pub outside : ¬ Valid a → r ≡ Err Outside
