-- DEMAND 1, stated and proved. Bad input is refused with document 01's number and place, and what was lent or carried is as it was, but for 12's word, the
-- first that one of the two automata accepts and the other rejects; all else is accepted; every call ends. The last is proved of each function by its check: no function is
-- accepted that does not return.
--
-- One field for each public function. It speaks of every outcome that the function's promise allows; `Conditions` has what each asks, in order.
use Rattle.std.specs.Prelude.{◌≡◌, ◌⊎◌, Result, Ok, List, ◌++◌, ℕ, ◌≤◌, ℤ, length}
use Rattle.std.proofs.Math.Option.{some}
use Rattle.automaton.specs.declared.Automaton.{Automaton}
use Rattle.refusals.specs.declared.Code.{Code}
use Rattle.refusals.specs.declared.Refusal.{Refusal}
use Rattle.automaton.specs.Value.{Valid}
use Rattle.clause_sizes.specs.declared.Target.{Target}
use Rattle.clause_sizes.specs.Targets.{Proper, last, kept}
use Rattle.compare.specs.Compared.{Compared, prefix_room, loop_room}
use Rattle.hoa_text.specs.Reading.{read}
use Rattle.hoa_text.specs.Written.{text}
use Rattle.clause_indices.specs.Indices.{clause_room}
use Rattle.hoa_read.specs.Told as hoa
use Rattle.hoa_write.specs.Answer.{Answered, returned as writer-said}
use Rattle.clause_header.specs.declared.Totals.{Totals}
use Rattle.clause_header.specs.Header.{Headed, returned as header-said}
use Rattle.clause_step.specs.declared.Handed.{Handed}
use Rattle.clause_step.specs.Step.{line_room, Stepped, position_after, returned as step-said}
use Rattle.clause_line.specs.Line.{LineStepped}
use Rattle.clause_text.specs.Answers.{BatchStepped}
use Rattle.solver_text.specs.declared.Reader.{Reader}
use Rattle.solver_text.specs.declared.Reply.{Reply}
use Rattle.solver_scan.specs.SolverText.{fault, outcome}
use Rattle.solver_text.specs.Machine.{told, run, end, fresh}
use Rattle.solver_text.specs.Calls.{Called, Reads, Ends, InRange, RefusedExactly, joined, returned as solution-said}
use Rattle.decode.specs.declared.Decoded.{Decoded}
use Rattle.decode.specs.Answers.{Decodes, OfText}
use Rattle.search_rule.specs.declared.Search.{Search}
use Rattle.search.specs.declared.Reply as search
use Rattle.search_rule.specs.Rule as rule
use Rattle.search.specs.Replies.{next, Started, Told, Found, returned as search-said}
use Rattle.demands.specs.Judgement.{Judged}
use Rattle.demands.specs.Conditions.{to_read, to_write, JudgesComparison, to_count, to_hand_out, JudgesReading, JudgesDecoding, to_start, to_go_on, JudgesFinding}

-- ---- the statement

-- hoa_read::read
pub record ReadsHoa : Type 0 where
  pub judged : (s : List ℕ) (r : Result Automaton Refusal) → r ≡ hoa.told (read s) → Judged (to_read s) (hoa.returned r) (Unit {0})
  -- what is accepted lies in "The automaton"
  pub valid : (s : List ℕ) (r : Result Automaton Refusal) (a : Automaton) → r ≡ hoa.told (read s) → r ≡ Ok a → Valid a
  -- and every automaton has a text that is accepted as that automaton: the reader does not always object
  pub every : (a : Automaton) → Valid a → (r : Result Automaton Refusal) → r ≡ hoa.told (read (text a)) → r ≡ Ok a

-- The reader of solver text: a call with a piece, one for the end, and what is said of whole texts
pub record ReadsSolverText : Type 0 where
  pub piece : (a : Automaton) (τ : Target) (r : Reader) (u : List ℕ) (e : Reply) → Called a τ r (told (run (last a τ) (kept a τ) r u)) e
      → JudgesReading a τ r (told (run (last a τ) (kept a τ) r u)) e
  pub finish : (a : Automaton) (τ : Target) (r : Reader) (e : Reply) → Ends a τ r e → JudgesReading a τ r (told (end (last a τ) (kept a τ) r)) e
  -- "Text may arrive cut anywhere; the answer is that of the whole text": 9 and 10 are returned where the definition of solver text gives them
  pub whole : (a : Automaton) (τ : Target) → Valid a → Proper τ → (us : List (List ℕ)) (q : Reader) (e : Reply) → Reads a τ fresh us q → Ends a τ q e
      → solution-said e.answer ≡ fault (outcome (last a τ) (kept a τ) (joined us))
  -- and in mid_text: a piece is refused exactly where every text that begins so is
  pub mid_text : (a : Automaton) (τ : Target) → Valid a → Proper τ → (us : List (List ℕ)) (q : Reader) (u : List ℕ) (e : Reply) → Reads a τ fresh us q
      → Called a τ q (told (run (last a τ) (kept a τ) q u)) e → RefusedExactly (last a τ) (kept a τ) (joined us ++ u) e.answer
  -- "refused solver text stays refused", whatever comes next
  pub stays : (a : Automaton) (τ : Target) (r : Reader) (c : Code) → Valid a → InRange r → Proper τ → solution-said (told r).answer ≡ some c
      → ((u : List ℕ) (e : Reply) → Called a τ r (told (run (last a τ) (kept a τ) r u)) e → e ≡ told r) × ((e : Reply) → Ends a τ r e → e ≡ told r)
  -- what a text is refused with is 9 or 10
  pub number : (r : Reader) (c : Code) → solution-said (told r).answer ≡ some c → (c.number ≡ 9) ⊎ (c.number ≡ 10)

pub record Demand1 : Type 0 where
  -- the reader of HOA text; nothing is lent or carried
  pub hoa : ReadsHoa
  -- hoa_write::write
  pub write : (a : Automaton) (out after : List ℕ) (answer : Result ℕ Refusal) → Answered a out after answer → Judged (to_write a (length out)) (writer-said answer) (after ≡ out)
  -- compare::compare
  pub compare : (a b : Automaton) (prefix prefix-after loop loop-after : List ℕ) (answer : Result (Unit {0}) Refusal) → Compared a b prefix prefix-after loop loop-after answer
      → JudgesComparison a b prefix prefix-after loop loop-after answer
  -- clause_header::header; nothing is lent or carried
  pub header : (a : Automaton) (τ : Target) (answer : Result Totals Refusal) → Headed a τ answer → Judged (to_count a τ) (header-said answer) (Unit {0})
  -- clause_step::step
  pub step : (a : Automaton) (τ : Target) (x : ℕ) (d e : List ℤ) (r : Result Handed Refusal) → Stepped a τ x d e r
      → Judged (to_hand_out clause_room (length d) a τ x) (step-said r) ((position_after x r ≡ x) × (e ≡ d))
  -- clause_line::line
  pub line : (a : Automaton) (τ : Target) (x : ℕ) (d e : List ℕ) (r : Result Handed Refusal) → LineStepped a τ x d e r
      → Judged (to_hand_out line_room (length d) a τ x) (step-said r) ((position_after x r ≡ x) × (e ≡ d))
  -- clause_text::lines
  pub lines : (a : Automaton) (τ : Target) (x : ℕ) (d e : List ℕ) (r : Result Handed Refusal) → BatchStepped a τ x d e r
      → Judged (to_hand_out line_room (length d) a τ x) (step-said r) ((position_after x r ≡ x) × (e ≡ d))
  -- solver text: Reader::read and Reader::finish
  pub solver_text : ReadsSolverText
  -- decode::decode
  pub decode : (prefix prefix-after loop loop-after : List ℕ) (answer : Result Decoded Refusal) (a : Automaton) (τ : Target) (r : Reader)
      → Decodes prefix prefix-after loop loop-after answer a τ r → JudgesDecoding a τ r prefix prefix-after loop loop-after answer
  -- the decoder takes what a fresh reader holds of a text: 9 and 10 where the definition of solver text gives them, and else by what the text says
  pub decode_text : (prefix prefix-after loop loop-after : List ℕ) (answer : Result Decoded Refusal) (a : Automaton) (τ : Target) → prefix_room ≤ length prefix → loop_room ≤ length loop → Valid a
      → Proper τ → (us : List (List ℕ)) (r : Reader) → Reads a τ fresh us r → Decodes prefix prefix-after loop loop-after answer a τ r
      → OfText prefix prefix-after loop loop-after answer a τ (outcome (last a τ) (kept a τ) (joined us))
  -- search::start, search::none and search::unknown, search::found
  pub start : (a : Automaton) (r : Result Search Refusal) → Started a r → Judged (to_start a) (search-said r) (Unit {0})
  pub none : (s : Search) (r : Result search.Reply Refusal) → Told s (rule.none s) r → Judged (to_go_on s) (search-said r) (next s r ≡ s)
  pub unknown : (s : Search) (r : Result search.Reply Refusal) → Told s (rule.unknown s) r → Judged (to_go_on s) (search-said r) (next s r ≡ s)
  pub found : (s : Search) (table : Automaton) (prefix prefix-after loop loop-after : List ℕ) (r : Result search.Reply Refusal) → Found s table prefix prefix-after loop loop-after r
      → JudgesFinding s table prefix prefix-after loop loop-after r
