-- DEFINITION: what the comparison answers, and what it leaves in the two lent buffers.
use Rattle.std.specs.Prelude.{◌≡◌, ◌≢◌, Result, Ok, Err, List, ◌++◌, ℕ, ◌≤◌, ◌<◌, length, drop}
use Rattle.std.proofs.Math.Option.{Option, none, some}
use Rattle.meaning.specs.Agreement.{Agree}
use Rattle.meaning.specs.FirstWord.{FirstWord}
use Rattle.automaton.specs.declared.Automaton.{Automaton}
use Rattle.refusals.specs.declared.Code.{Code}
use Rattle.refusals.specs.declared.Refusal.{Refusal}
use Rattle.refusals.specs.declared.Refusal.TheVariants.{Outside, Differ, Short, Propositions}
use Rattle.refusals.specs.Refused.{row, code_of}
use Rattle.automaton.specs.Value.{Valid}
use Rattle.automaton.specs.View.{view}

-- "Returned (number, a, b)": what an answer returns, or none where nothing is turned down
abbrev pub returned : Result (Unit {0}) Refusal → Option Code
returned (Ok same) = none
returned (Err f) = some (code_of f)

-- "Buffers: prefix 256 .. (one byte a letter)", and document 02's "the loop buffer 2,304"
abbrev pub prefix_room : ℕ
prefix_room = 256

abbrev pub loop_room : ℕ
loop_room = 2304

-- both buffers are long enough
pub record Room (prefix loop : List ℕ) : Type 0 where
  pub prefix_room_fits : prefix_room ≤ length prefix
  pub loop_room_fits : loop_room ≤ length loop

-- what the comparison is asked, and what becomes of it: the answer, and the buffers before and after
module _ (a b : Automaton) (prefix prefix-after loop loop-after : List ℕ) (answer : Result (Unit {0}) Refusal) where
  -- an answer that leaves both buffers as they were, and what it returns
  abbrev pub Untouched : Result (Unit {0}) Refusal → Option Code → Type 0
  Untouched r c = (answer ≡ r) × (prefix-after ≡ prefix) × (loop-after ≡ loop) × (returned answer ≡ c)

  -- 12: the first word that shows the difference. "On 12 only the stated lengths are written."
  pub record Shown : Type 0 where
    pub x : List ℕ
    pub y : List ℕ
    pub says : answer ≡ Err (Differ (length x) (length y))
    pub prefix_is : prefix-after ≡ x ++ drop (length x) prefix
    pub loop_is : loop-after ≡ y ++ drop (length y) loop
    pub word : FirstWord (view a) (view b) x y
    pub number : returned answer ≡ some (row 12 (length x) (length y))

  -- "Order: 13 (prefix before loop), 4 for handed values, .. 14, 12."
  pub record Compared : Type 0 where
    pub short_prefix : length prefix < prefix_room → Untouched (Err (Short prefix_room (length prefix))) (some (row 13 prefix_room (length prefix)))
    pub short_loop : prefix_room ≤ length prefix → length loop < loop_room → Untouched (Err (Short loop_room (length loop))) (some (row 13 loop_room (length loop)))
    pub outside : prefix_room ≤ length prefix → loop_room ≤ length loop → ¬ (Valid a × Valid b) → Untouched (Err Outside) (some (row 4 0 0))
    pub letters : prefix_room ≤ length prefix → loop_room ≤ length loop → Valid a → Valid b → a.propositions ≢ b.propositions
        → Untouched (Err (Propositions a.propositions b.propositions)) (some (row 14 a.propositions b.propositions))
    pub same : prefix_room ≤ length prefix → loop_room ≤ length loop → Valid a → Valid b → a.propositions ≡ b.propositions → Agree (view a) (view b) → Untouched (Ok tt) none
    pub differ : prefix_room ≤ length prefix → loop_room ≤ length loop → Valid a → Valid b → a.propositions ≡ b.propositions → ¬ Agree (view a) (view b) → Shown
