-- DEFINITION: what the writer answers, what that returns, and what it leaves in the lent buffer.
use Rattle.std.specs.Prelude.{◌≡◌, List, ◌++◌, ℕ, ◌≤◌, ◌<◌, length, drop, Result, Ok, Err}
use Rattle.std.proofs.Math.Option.{Option, none, some}
use Rattle.automaton.specs.declared.Automaton.{Automaton}
use Rattle.refusals.specs.declared.Code.{Code}
use Rattle.refusals.specs.declared.Refusal.{Refusal}
use Rattle.refusals.specs.declared.Refusal.TheVariants.{Outside, Short}
use Rattle.refusals.specs.Refused.{row, code_of}
use Rattle.automaton.specs.Value.{Valid}
use Rattle.hoa_text.specs.Written.{text}

-- "Returned (number, a, b)": what an answer returns, or none where nothing is turned down
abbrev pub returned : Result ℕ Refusal → Option Code
returned (Ok n) = none
returned (Err f) = some (code_of f)

-- "Buffers: .. HOA output 8,192"
abbrev pub hoa_room : ℕ
hoa_room = 8192

-- "Order: 13, 4 for handed values." A refusal leaves the buffer as it was; the text stands at its start, and what is past the text is as it was.
pub record Answered (a : Automaton) (out after : List ℕ) (answer : Result ℕ Refusal) : Type 0 where
  pub short : length out < hoa_room → (answer ≡ Err (Short hoa_room (length out))) × (after ≡ out) × (returned answer ≡ some (row 13 hoa_room (length out)))
  pub outside : hoa_room ≤ length out → ¬ Valid a → (answer ≡ Err Outside) × (after ≡ out) × (returned answer ≡ some (row 4 0 0))
  pub written : hoa_room ≤ length out → Valid a
      → (answer ≡ Ok (length (text a))) × (after ≡ text a ++ drop (length (text a)) out) × (returned answer ≡ none)
