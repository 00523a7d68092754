-- DEFINITION: what the clause program hands over to standard output. Document 01, "Known decks": "the clause program prints, header first, ..". Which bytes reach a file
-- no contract can say; so the program's functions return how many bytes they handed over, and the text that has so many is named here.
use Rattle.std.specs.Prelude.{◌≡◌, Bool, true, false, ◌||◌, List, [], ◌∷◌, ◌++◌, ℕ, length, Result, Ok, Err, is_err, is_none}
use Rattle.std.proofs.Math.Option.{some}
use Rattle.automaton.specs.declared.Automaton.{Automaton}
use Rattle.refusals.specs.declared.Refusal.{Refusal}
use Rattle.refusals.specs.Refused.{code_of}
use Rattle.automaton.specs.Value.{Valid}
use Rattle.clause_sizes.specs.declared.Target.{Target}
use Rattle.clause_sizes.specs.Targets.{Proper, last, file}
use Rattle.clause_sizes.specs.Sizes.{Refuses}
use Rattle.clause_step.specs.declared.Handed.{Handed}
use Rattle.clause_step.specs.Step.{fresh_position}
use Rattle.clause_words.specs.Text.{lines_text}
use Rattle.clause_text.specs.Batches.{TextCall, TextCalls, all_bytes}
use Rattle.console_report.specs.Lines.{header_line, refused_line}
use Rattle.console_clauses.specs.declared.Printout.{Printout}
use Rattle.console_clauses.specs.declared.Printout.TheVariants.{Whole, Cut, Header, Refused}

-- "The header is `p cnf V C`"
abbrev pub header_text : Automaton → Target → List ℕ
header_text a τ = header_line (last a τ) (length (file a τ))

-- the clause file, header first
abbrev pub file_text : Automaton → Target → List ℕ
file_text a τ = header_text a τ ++ lines_text (file a τ)

-- an answer says "ended"
abbrev pub ended : Result Handed Refusal → Bool
ended (Ok h) = is_none h.written
ended (Err f) = false

-- one of the calls' answers passes a test
abbrev pub some_call : (Result Handed Refusal → Bool) → List TextCall → Bool
some_call test [] = false
some_call test (c ∷ cs) = test c.result || some_call test cs

-- ---- what was handed over

-- so many bytes
abbrev pub bytes_of : Printout → ℕ
bytes_of (Whole k) = k
bytes_of (Cut k) = k
bytes_of (Header k) = k
bytes_of (Refused k) = k

-- they are a whole clause file
abbrev pub whole : Printout → Bool
whole (Whole k) = true
whole (Cut k) = false
whole (Header k) = false
whole (Refused k) = false

-- and the output took the header's line
abbrev pub headed : Printout → Bool
headed (Whole k) = true
headed (Cut k) = true
headed (Header k) = false
headed (Refused k) = false

-- the header's line, and then the lines of the clauses: there is a list of calls from the fresh position on, each with the position that the call before it left, and the
-- bytes that they wrote were handed over, so many in all. None is turned down, and they are whole exactly if a call said "ended"; otherwise the output did not take the last
-- bytes. Where it did not take the header's, there is no call: just the header's bytes were handed over, and the file is not whole.
pub record HandsLines (a : Automaton) (τ : Target) (r : Printout) : Type 0 where
  pub calls : List TextCall
  pub called : TextCalls a τ fresh_position calls
  pub bytes : bytes_of r ≡ length (header_text a τ ++ all_bytes calls)
  pub accepted : some_call is_err calls ≡ false
  pub whole_is : whole r ≡ some_call ended calls
  pub stops : headed r ≡ false → calls ≡ []

-- the file, or the line of a refusal
pub record HandsFile (a : Automaton) (τ : Target) (r : Printout) : Type 0 where
  pub file : Valid a → Proper τ → HandsLines a τ r
  pub refused : (f : Refusal) → Refuses a τ f (some (code_of f)) → r ≡ Refused (length (refused_line f))
