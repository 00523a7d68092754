-- DEFINITIONS: what the lines of the table of known decks say, by the definitions that the public contracts cite.
use Rattle.std.specs.Prelude.{◌≡◌, Result, Ok, Err, ℕ, ◌≤◌, length}
use mathlib.Core.List.{List, [], ◌++◌, Memᴰ}
use Rattle.std.proofs.Math.Option.{Option, some}
use Rattle.automaton.specs.declared.Automaton.{Automaton}
use Rattle.refusals.specs.declared.Code.{Code}
use Rattle.refusals.specs.declared.Refusal.{Refusal}
use Rattle.refusals.specs.Refused.{code_of}
use Rattle.encoding.specs.Clauses.{Assignment, Satisfies}
use Rattle.clause_sizes.specs.declared.Target.{Target}
use Rattle.clause_sizes.specs.Targets.{last, kept, file}
use Rattle.compare.specs.Compared.{prefix_room, loop_room}
use Rattle.hoa_text.specs.Grammar.{gives, refuses}
use Rattle.hoa_text.specs.Reading.{read}
use Rattle.clause_header.specs.declared.Totals.{Totals}
use Rattle.clause_header.specs.Header.{Headed}
use Rattle.clause_step.specs.Step.{fresh_position, Ended}
use Rattle.clause_words.specs.Text.{lines_text}
use Rattle.clause_text.specs.Batches.{TextCall, TextCalls, all_bytes}
use Rattle.solver_text.specs.declared.Reader.{Reader}
use Rattle.solver_text.specs.declared.Reply.{Reply}
use Rattle.solver_scan.specs.SolverText.{refused, outcome}
use Rattle.solver_agreement.specs.Assignment.{States}
use Rattle.solver_text.specs.Machine.{fresh}
use Rattle.solver_text.specs.Calls.{Reads, Ends, joined}
use Rattle.decode.specs.declared.Decoded.{Decoded}
use Rattle.decode.specs.Answers.{Decodes, Untouched}
use Rattle.console_report.specs.Lines.{header_line}

-- ---- HOA text

-- the text is read, and P is said of the automaton
abbrev pub ReadAs : List ℕ → (Automaton → Type 0) → Type 0
ReadAs text P = (a : Automaton) × (read text ≡ gives a) × P a

-- the text is turned down, with this number and these two values
abbrev pub HoaTextRefused : List ℕ → Code → Type 0
HoaTextRefused text c = (f : Refusal) × (code_of f ≡ c) × (read text ≡ refuses f)

-- ---- the clause file for the reference a and the target

-- "V variables, C clauses"
pub record Counts (a : Automaton) (τ : Target) (variables clauses : ℕ) : Type 0 where
  pub last_variable_lem : last a τ ≡ variables
  pub count : length (file a τ) ≡ clauses

-- "some"
abbrev pub Satisfiable : Automaton → Target → Type 0
Satisfiable a τ = (ν : Assignment) × Satisfies ν (file a τ)

-- by what the header answers
abbrev pub header_text : Result Totals Refusal → List ℕ
header_text (Ok t) = header_line t.variables t.clauses
header_text (Err f) = []

-- "the clause program prints, header first"
pub record Prints (a : Automaton) (τ : Target) (text : List ℕ) : Type 0 where
  -- the text of the file
  pub text_is : header_line (last a τ) (length (file a τ)) ++ lines_text (file a τ) ≡ text
  -- so that of what the header answers, and then of all that calls for lines write until one says "ended"
  pub calls : (t : Result Totals Refusal) → Headed a τ t → (cs : List TextCall) → TextCalls a τ fresh_position cs → (c : TextCall) → Memᴰ c cs → Ended c.result
      → header_text t ++ all_bytes cs ≡ text

-- ---- solver text

-- the text states an assignment, and P is said of it
abbrev pub Stating : (a : Automaton) (τ : Target) → List ℕ → (Assignment → Type 0) → Type 0
Stating a τ text P = (ν : Assignment) × States (last a τ) (kept a τ) text ν × P ν

-- "A fresh reader of solver text has read nothing; its own state goes likewise from piece to piece, empty ones too, to the end, and the
-- decoder takes what it then holds": q is what it holds, in whatever pieces the text came
pub record HasRead (a : Automaton) (τ : Target) (text : List ℕ) (q : Reader) : Type 0 where
  pub pieces : List (List ℕ)
  pub whole : joined pieces ≡ text
  pub reads : Reads a τ fresh pieces q

-- what the decoder answers and returns, where no buffer is short; the buffers stay as they were
abbrev pub DecodedAs : (a : Automaton) (τ : Target) → List ℕ → Result Decoded Refusal → Option Code → Type 0
DecodedAs a τ text y c =
    (q : Reader) → HasRead a τ text q → (prefix prefix-after loop loop-after : List ℕ) → prefix_room ≤ length prefix → loop_room ≤ length loop → (x : Result Decoded Refusal)
    → Decodes prefix prefix-after loop loop-after x a τ q → Untouched prefix prefix-after loop loop-after x y c

-- it answers with this number and these two values
abbrev pub DecoderRefuses : (a : Automaton) (τ : Target) → List ℕ → Code → Type 0
DecoderRefuses a τ text c = (f : Refusal) × (code_of f ≡ c) × DecodedAs a τ text (Err f) (some c)

-- 9 and 10: the text itself is turned down, by its definition, by the reader at its end and by the decoder
pub record SolverTextRefused (a : Automaton) (τ : Target) (text : List ℕ) (c : Code) : Type 0 where
  pub refusal : Refusal
  pub code : code_of refusal ≡ c
  pub of_text : outcome (last a τ) (kept a τ) text ≡ refused refusal
  pub reply : (q : Reader) → HasRead a τ text q → (e : Reply) → Ends a τ q e → e.answer ≡ Err refusal
  pub decoder : DecodedAs a τ text (Err refusal) (some c)
