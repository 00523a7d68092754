-- DEFINITIONS: a list of calls for lines and for batches of lines, and what is said of it.
use Rattle.std.specs.Prelude.{◌⊎◌, ◌≡◌, ℕ, take, Result, Ok, Err}
use Rattle.std.specs.Option.{unwrap_or}
use mathlib.Core.List.{List, [], ◌∷◌, ◌++◌, Memᴰ}
use Rattle.automaton.specs.declared.Automaton.{Automaton}
use Rattle.refusals.specs.declared.Refusal.{Refusal}
use Rattle.clause_sizes.specs.declared.Target.{Target}
use Rattle.clause_sizes.specs.Targets.{file}
use Rattle.clause_step.specs.Calls.{CallOn, CallsOn, RefusedShort}
use Rattle.clause_words.specs.Text.{lines_text}
use Rattle.clause_step.specs.declared.Handed.{Handed}
use Rattle.clause_step.specs.Step.{Ended}
use Rattle.clause_line.specs.Line.{LineStepped}
use Rattle.clause_text.specs.Answers.{BatchStepped}

-- a call for a line, or for a batch of lines
abbrev pub TextStepped : (a : Automaton) (τ : Target) (x : ℕ) (d e : List ℕ) → Result Handed Refusal → Type 0
TextStepped a τ x d e r = LineStepped a τ x d e r ⊎ BatchStepped a τ x d e r

abbrev pub TextCall : Type 0
TextCall = CallOn ℕ

abbrev pub TextCalls : (a : Automaton) (τ : Target) (x : ℕ) → List TextCall → Type 0
TextCalls a τ = CallsOn (TextStepped a τ)

-- the bytes that are written, call after call
abbrev pub bytes : Result Handed Refusal → List ℕ → List ℕ
bytes (Ok h) after = take (unwrap_or h.written 0) after
bytes (Err f) after = []

abbrev pub all_bytes : List TextCall → List ℕ
all_bytes [] = []
all_bytes (c ∷ cs) = bytes c.result c.after ++ all_bytes cs

-- what is given over a whole list of calls
pub record LinesOut (a : Automaton) (τ : Target) (cs : List TextCall) : Type 0 where
  -- the file's lines from the first on, as far as they go
  pub left : List ℕ
  pub begins : all_bytes cs ++ left ≡ lines_text (file a τ)
  -- and all of them, once a call says "ended"
  pub whole : (c : TextCall) → Memᴰ c cs → Ended c.result → all_bytes cs ≡ lines_text (file a τ)
  pub refused : RefusedShort 80 cs
