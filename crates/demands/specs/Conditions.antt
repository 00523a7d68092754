-- DEFINITIONS: what each public function asks of a call, in document 01's "Order: 13 (prefix before loop), 4 for handed values, 8, then reading left to
-- right, then 11, 14, 12", with what document 02 puts "after 8", and what its answers return: a refusal's number and two values, or none.
use Rattle.std.specs.Prelude.{◌≡◌, ◌≢◌, Result, Ok, false, List, [], ◌∷◌, ◌++◌, ℕ, ◌≤◌, length, drop}
use Rattle.std.proofs.Math.Option.{Option, none, some}
use Rattle.meaning.specs.Agreement.{Agree}
use Rattle.meaning.specs.FirstWord.{FirstWord}
use Rattle.acceptance.specs.Masks.{OwnSets}
use Rattle.automaton.specs.declared.Automaton.{Automaton}
use Rattle.refusals.specs.declared.Code.{Code}
use Rattle.refusals.specs.declared.Refusal.{Refusal}
use Rattle.refusals.specs.Refused.{row}
use Rattle.automaton.specs.Value.{Valid}
use Rattle.automaton.specs.View.{view}
use Rattle.encoding.specs.Clauses.{Assignment}
use Rattle.clause_sizes.specs.declared.Target.{Target}
use Rattle.clause_sizes.specs.Targets.{Dimensioned}
use Rattle.compare.specs.Compared.{returned as comparison-said, prefix_room, loop_room}
use Rattle.hoa_text.specs.Reading.{reading, text_limit}
use Rattle.hoa_text.specs.Tokens.{tokens}
use Rattle.hoa_write.specs.Answer.{hoa_room}
use Rattle.hoa_read.specs.Told.{fault as hoa-said}
use Rattle.clause_step.specs.Step.{last_position}
use Rattle.solver_text.specs.declared.Reader.{Reader}
use Rattle.solver_text.specs.declared.Reply.{Reply}
use Rattle.solver_scan.specs.declared.Verdict.{Verdict}
use Rattle.solver_scan.specs.declared.Verdict.TheVariants.{Unstated, Satisfiable, Unsatisfiable, Unknown}
use Rattle.solver_text.specs.Calls.{InRange, returned as solution-said}
use Rattle.decode.specs.declared.Decoded.TheVariants as decoding
use Rattle.decode.specs.declared.Decoded.{Decoded}
use Rattle.decode.specs.Answers.{whole, said, returned as decoder-said}
use Rattle.decode.specs.Table.{decoded_value, AllStep, LowestWithout}
use Rattle.search_rule.specs.declared.Search.{Search}
use Rattle.search.specs.declared.Reply as state-reply
use Rattle.search.specs.Replies as state
use Rattle.search.specs.Replies.{returned as search-said}
use Rattle.demands.specs.Judgement.{Condition, asks, TurnedDown, Accepted, Judged}

-- ---- the reader of HOA text

-- a text must have no fault: `fault` is what it is refused with, or none
abbrev pub fault_code : Option Code → Code
fault_code none = row 0 0 0
fault_code (some c) = c

abbrev pub no_fault : Option Code → Condition
no_fault fault = record { met = fault ≡ none; otherwise = fault_code fault }

-- 2 before reading, with the limit as offset; then left to right, as `hoa_text` defines it: 1 to 4, 5 for a body twice, 6; and after the
-- whole text 5 and 7
abbrev pub to_read : (text : List ℕ) → List Condition
to_read text = asks (length text ≤ text_limit) 2 text_limit 0 ∷ no_fault (hoa-said (reading (tokens text))) ∷ []

-- ---- the HOA writer

abbrev pub to_write : (a : Automaton) (given : ℕ) → List Condition
to_write a given = asks (hoa_room ≤ given) 13 hoa_room given ∷ asks (Valid a) 4 0 0 ∷ []

-- ---- the comparison; p and l are the lengths of 12's word

abbrev pub to_compare : (a b : Automaton) (prefix loop p l : ℕ) → List Condition
to_compare a b prefix loop p l =
    asks (prefix_room ≤ prefix) 13 prefix_room prefix
    ∷ asks (loop_room ≤ loop) 13 loop_room loop
    ∷ asks (Valid a × Valid b) 4 0 0
    ∷ asks (a.propositions ≡ b.propositions) 14 a.propositions b.propositions
    ∷ asks (Agree (view a) (view b)) 12 p l
    ∷ []

-- "On 12 only the stated lengths are written": the buffer begins with w, and behind it is as it was
abbrev pub Begins : (w buffer after : List ℕ) → Type 0
Begins w buffer after = after ≡ w ++ drop (length w) buffer

-- A comparison is judged by its conditions. x and y are 12's word, and empty on every other answer, so that both buffers are then as they were.
pub record JudgesComparison (a b : Automaton) (prefix prefix-after loop loop-after : List ℕ) (answer : Result (Unit {0}) Refusal) : Type 0 where
  pub x : List ℕ
  pub y : List ℕ
  pub judged : Judged (to_compare a b (length prefix) (length loop) (length x) (length y)) (comparison-said answer) (Begins x prefix prefix-after × Begins y loop loop-after)
  pub empty : (c : Code) → comparison-said answer ≡ some c → c.number ≢ 12 → (x ≡ []) × (y ≡ [])
  -- where 12 is said, it is the first word that shows that the two differ
  pub shown : (c : Code) → comparison-said answer ≡ some c → c.number ≡ 12 → FirstWord (view a) (view b) x y
  pub same : answer ≡ Ok tt → (prefix-after ≡ prefix) × (loop-after ≡ loop)

-- ---- what is named for a file: "n outside 1 to 8 or m outside 0 to 4", then of the candidate's acceptance "a yes past m: 4, 0, 0, after 8"

abbrev pub to_name : (τ : Target) → List Condition
to_name τ = asks (Dimensioned τ) 8 τ.states τ.sets ∷ asks (OwnSets τ.acceptance τ.sets) 4 0 0 ∷ []

-- ---- the header, the clause step, the clause line and the batch of lines

abbrev pub to_count : (a : Automaton) (τ : Target) → List Condition
to_count a τ = asks (Valid a) 4 0 0 ∷ to_name τ

abbrev pub to_hand_out : (needed given : ℕ) (a : Automaton) (τ : Target) (position : ℕ) → List Condition
to_hand_out needed given a τ position = asks (needed ≤ given) 13 needed given ∷ asks (Valid a × (position ≤ last_position)) 4 0 0 ∷ to_name τ

-- ---- the reader of solver text: what it asks before it reads

abbrev pub to_begin : (a : Automaton) (τ : Target) (r : Reader) → List Condition
to_begin a τ r = asks (Valid a × InRange r) 4 0 0 ∷ to_name τ

-- A call with the state r is judged before it reads, and then by 9 and 10, as reading gives them. 4 and 8 leave the state as it was; else it is what was read.
pub record JudgesReading (a : Automaton) (τ : Target) (r : Reader) (read reply : Reply) : Type 0 where
  pub judged : Judged (to_begin a τ r ++ (no_fault (solution-said read.answer) ∷ [])) (solution-said reply.answer) (Unit {0})
  pub kept : (c : Code) → TurnedDown (to_begin a τ r) c → reply.reader ≡ r
  pub moved : Accepted (to_begin a τ r) → reply.reader ≡ read.reader

-- ---- the decoder: the buffers, the reader's conditions, 9 and 10 of the text that it holds, and then what the text states. There is no 14: the table has the
-- reference's propositions.

module _ (a : Automaton) (τ : Target) (r : Reader) where
  -- the verdict of the text, and the assignment that it states
  abbrev pub verdict_of : Verdict
  verdict_of = (whole a τ r).reader.scan.verdict

  abbrev pub stated_by : Assignment
  stated_by = said (whole a τ r).reader

  -- state and letter are those of 11, p and l the lengths of 12's word. "No `s` line" is 9 also where no text leaves a reader so.
  abbrev pub to_decode : (prefix loop state letter p l : ℕ) → List Condition
  to_decode prefix loop state letter p l =
      asks (prefix_room ≤ prefix) 13 prefix_room prefix
      ∷ asks (loop_room ≤ loop) 13 loop_room loop
      ∷ to_begin a τ r
      ++ (no_fault (solution-said (whole a τ r).answer)
      ∷ asks (verdict_of ≢ Unstated) 9 (whole a τ r).reader.scan.at 0
      ∷ asks (verdict_of ≡ Satisfiable → AllStep a τ stated_by) 11 state letter
      ∷ asks (verdict_of ≡ Satisfiable → Agree (view (decoded_value a τ stated_by)) (view a)) 12 p l
      ∷ [])

-- the answer x to a text that is accepted, by its verdict, where C is the table that is decoded
abbrev pub Answers : Verdict → (C : Automaton) (x : Result Decoded Refusal) → Type 0
Answers Unstated C x = ⊥
Answers Satisfiable C x = x ≡ Ok (decoding.Table C)
Answers Unsatisfiable C x = x ≡ Ok decoding.None
Answers Unknown C x = x ≡ Ok decoding.Unknown

-- The decoder is judged by its conditions. State and letter are 11's, "no true step, lowest"; x and y are 12's word, and empty on every other answer.
pub record JudgesDecoding (a : Automaton) (τ : Target) (r : Reader) (prefix prefix-after loop loop-after : List ℕ) (answer : Result Decoded Refusal) : Type 0 where
  pub state : ℕ
  pub letter : ℕ
  pub x : List ℕ
  pub y : List ℕ
  pub judged : Judged (to_decode a τ r (length prefix) (length loop) state letter (length x) (length y)) (decoder-said answer)
      (Begins x prefix prefix-after × Begins y loop loop-after)
  pub lowest : ¬ AllStep a τ (stated_by a τ r) → LowestWithout a τ (stated_by a τ r) state letter
  pub empty : (c : Code) → decoder-said answer ≡ some c → c.number ≢ 12 → (x ≡ []) × (y ≡ [])
  -- where 12 is said, it is the first word that shows that the table that is decoded and the reference differ
  pub shown : (c : Code) → decoder-said answer ≡ some c → c.number ≡ 12 → FirstWord (view (decoded_value a τ (stated_by a τ r))) (view a) x y
  pub accepted : decoder-said answer ≡ none
      → Answers (verdict_of a τ r) (decoded_value a τ (stated_by a τ r)) answer × (prefix-after ≡ prefix) × (loop-after ≡ loop)

-- ---- the search: "A finished search, after 13 and 4, says so", and asks nothing more of a table; "a found table with another" acceptance than Inf of all "gets
-- 3, 0, 0, after 8"

abbrev pub to_start : (a : Automaton) → List Condition
to_start a = asks (Valid a) 4 0 0 ∷ []

abbrev pub to_go_on : (s : Search) → List Condition
to_go_on s = asks (state.InRange s) 4 0 0 ∷ []

abbrev pub to_find : (s : Search) (table : Automaton) (prefix loop p l : ℕ) → List Condition
to_find s table prefix loop p l =
    asks (prefix_room ≤ prefix) 13 prefix_room prefix
    ∷ asks (loop_room ≤ loop) 13 loop_room loop
    ∷ asks (state.InRange s × Valid table) 4 0 0
    ∷ asks (s.finished ≡ false → state.AskedFor s table) 8 table.states table.sets
    ∷ asks (s.finished ≡ false → state.InfOfAll table) 3 0 0
    ∷ asks (s.finished ≡ false → table.propositions ≡ s.reference.propositions) 14 table.propositions s.reference.propositions
    ∷ asks (s.finished ≡ false → Agree (view table) (view s.reference)) 12 p l
    ∷ []

-- A found table is judged by its conditions: "a refused one changes nothing". x and y are 12's word, and empty on every other answer.
pub record JudgesFinding (s : Search) (table : Automaton) (prefix prefix-after loop loop-after : List ℕ) (r : Result state-reply.Reply Refusal) : Type 0 where
  pub x : List ℕ
  pub y : List ℕ
  pub judged : Judged (to_find s table (length prefix) (length loop) (length x) (length y)) (search-said r)
      ((state.next s r ≡ s) × Begins x prefix prefix-after × Begins y loop loop-after)
  pub empty : (c : Code) → search-said r ≡ some c → c.number ≢ 12 → (x ≡ []) × (y ≡ [])
  -- where 12 is said, it is the first word that shows that the found table and the reference differ
  pub shown : (c : Code) → search-said r ≡ some c → c.number ≡ 12 → FirstWord (view table) (view s.reference) x y
  pub accepted : search-said r ≡ none → (prefix-after ≡ prefix) × (loop-after ≡ loop)
