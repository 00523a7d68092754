-- DEFINITIONS: what a call of the clause step answers and leaves in the buffer, for the reference a and the target τ at position x, on all input.
use Rattle.std.specs.Prelude.{◌≡◌, List, ℕ, ◌≤◌, ◌<◌, ℤ, length, Option, Some, None, Result, Ok, Err}
use Rattle.std.proofs.Math.Option as maybe
use Rattle.std.proofs.Math.Option.{none, some}
use Rattle.acceptance.specs.Masks.{OwnSets}
use Rattle.automaton.specs.declared.Automaton.{Automaton}
use Rattle.refusals.specs.declared.Code.{Code}
use Rattle.refusals.specs.declared.Refusal.{Refusal}
use Rattle.refusals.specs.declared.Refusal.TheVariants.{Outside, Dimensions, Short}
use Rattle.refusals.specs.Refused.{row, code_of}
use Rattle.automaton.specs.Value.{Valid}
use Rattle.decimal.specs.Wrote.{Wrote}
use Rattle.clause_sizes.specs.declared.Target.{Target}
use Rattle.clause_sizes.specs.Targets.{Dimensioned, Proper, task, numbers}
use Rattle.clause_list.specs.Next.{Found, handed, ended, next_clause}
use Rattle.clause_indices.specs.Indices.{clause_room}
use Rattle.clause_step.specs.declared.Handed.{Handed}

-- ---- positions

-- "A fresh clause step stands before clause 1."
abbrev pub fresh_position : ℕ
fresh_position = 0

-- "a carried state with a field out of its range": the largest file has so many positions
abbrev pub last_position : ℕ
last_position = 8_657_059_969

-- ---- what is turned down, and the number and values that are then returned

-- the room of a line, as `clause_room` is that of a clause: "Buffers: .. one clause line 80 bytes"
abbrev pub line_room : ℕ
line_room = 80

-- "Order: 13 .., 4 for handed values, 8", then for the named acceptance "a yes past m: 4, 0, 0, after 8": a buffer has `given` places of the `needed`
pub data TurnedDown (needed given : ℕ) (a : Automaton) (τ : Target) (x : ℕ) : Refusal → maybe.Option Code → Type 0 where
  short : given < needed → TurnedDown needed given a τ x (Short needed given) (some (row 13 needed given))
  outside : needed ≤ given → ¬ (Valid a × (x ≤ last_position)) → TurnedDown needed given a τ x Outside (some (row 4 0 0))
  dimensions : needed ≤ given → Valid a → x ≤ last_position → ¬ Dimensioned τ → TurnedDown needed given a τ x (Dimensions τ.states τ.sets) (some (row 8 τ.states τ.sets))
  past_sets : needed ≤ given → Valid a → x ≤ last_position → Dimensioned τ → ¬ OwnSets τ.acceptance τ.sets → TurnedDown needed given a τ x Outside (some (row 4 0 0))

pub record Accepted (needed given : ℕ) (a : Automaton) (τ : Target) (x : ℕ) : Type 0 where
  pub room : needed ≤ given
  pub valid : Valid a
  pub in_range : x ≤ last_position
  pub proper : Proper τ

-- ---- the answers

-- "Returned (number, a, b)": what is returned, or none where nothing is turned down
abbrev pub returned : Result Handed Refusal → maybe.Option Code
returned (Ok h) = none
returned (Err f) = some (code_of f)

-- "ended": the last clause has been handed out
abbrev pub Ended : Result Handed Refusal → Type 0
Ended (Ok h) = h.written ≡ None
Ended (Err f) = ⊥

-- the position that a call from position x leaves: "A refused step keeps its position"
abbrev pub position_after : ℕ → Result Handed Refusal → ℕ
position_after x (Ok h) = h.position
position_after x (Err f) = x

-- the first clause of the file from position x on
abbrev pub found_from : (a : Automaton) (τ : Target) (x : ℕ) → Found
found_from a τ = next_clause (task a τ) (numbers a τ)

-- What each answer says: "clause by clause; "ended" follows clause C". Only the clause's literals are written.
module _ (a : Automaton) (τ : Target) (x : ℕ) (d e : List ℤ) where
  -- y is the position that is handed back
  abbrev pub StepFound : Option ℕ → (y : ℕ) → Type 0
  StepFound (Some k) y = (c : List ℤ) × (found_from a τ x ≡ handed c y) × Wrote d 0 c e k
  StepFound None y = (found_from a τ x ≡ ended y) × (e ≡ d)

  abbrev pub Stepped : Result Handed Refusal → Type 0
  Stepped (Ok h) = Accepted clause_room (length d) a τ x × StepFound h.written h.position
  Stepped (Err f) = TurnedDown clause_room (length d) a τ x f (returned (Err f)) × (e ≡ d)
