-- DEFINITION: what is handed over to standard output of what the decoder answers. Which bytes reach a file no contract can say, nor whether the output takes them; so the
-- functions return how many bytes they handed over, and the text that has so many is named here.
use Rattle.std.specs.Prelude.{◌≡◌, ◌⊎◌, List, [], ◌∷◌, ◌++◌, ℕ, length, take, replicate, Some, None, MatchResult, Result, Ok, Err}
use Rattle.automaton.specs.declared.Automaton.{Automaton}
use Rattle.automaton.specs.Bytes.{bytes}
use Rattle.automaton.specs.Value.{Valid}
use Rattle.refusals.specs.declared.Refusal.{Refusal}
use Rattle.refusals.specs.declared.Refusal.TheVariants.{Outside, Differ}
use Rattle.clause_sizes.specs.declared.Target.{Target}
use Rattle.compare.specs.Compared.{prefix_room, loop_room}
use Rattle.hoa_text.specs.Written.{text}
use Rattle.decode.specs.declared.Decoded.{Decoded}
use Rattle.decode.specs.declared.Decoded.TheVariants.{Table, None as NoTable, Unknown}
use Rattle.console_report.specs.Lines.{refused_line, word_lines}
use Rattle.console_answers.specs.declared.Told.{Told}
use Rattle.console_answers.specs.FromPieces.{FromPieces}
use Rattle.console_decoded.specs.declared.Output.{Output}

-- so many bytes, and no word behind them
abbrev pub unworded : ℕ → Output
unworded k = record { answer = k; word = None }

-- the bytes s alone
abbrev pub Alone : List ℕ → Output → Type 0
Alone s r = r ≡ unworded (length s)

-- a table: its text, or the line of 4 where it is none that HOA could give
pub record HandsTable (a : Automaton) (r : Output) : Type 0 where
  pub written : Valid a → Alone (text a) r
  pub outside : ¬ Valid a → Alone (refused_line Outside) r

-- 12: its line, and then the two lines of the word in the buffers, which are left out where the output did not take the first line
pub record HandsWord (p l : ℕ) (prefix loop : List ℕ) (r : Output) : Type 0 where
  pub line : r.answer ≡ length (refused_line (Differ p l))
  pub word : (r.word ≡ Some (length (word_lines (take p prefix) (take l loop)))) ⊎ (r.word ≡ None)

-- a refusal: its line, and behind that of 12 the word
pub record HandsRefused (f : Refusal) (prefix loop : List ℕ) (r : Output) : Type 0 where
  pub differs : (p l : ℕ) → f ≡ Differ p l → HandsWord p l prefix loop r
  pub other : ((p l : ℕ) → ¬ (f ≡ Differ p l)) → Alone (refused_line f) r

-- what was decoded, with the two buffers that the decoder left
abbrev pub HandsDecoded : Result Decoded Refusal → (prefix loop : List ℕ) → Output → Type 0
HandsDecoded (Ok (Table a)) prefix loop r = HandsTable a r
HandsDecoded (Ok NoTable) prefix loop r = Alone (bytes "none" ++ (10 ∷ [])) r
HandsDecoded (Ok Unknown) prefix loop r = Alone (bytes "unknown" ++ (10 ∷ [])) r
HandsDecoded (Err f) prefix loop r = HandsRefused f prefix loop r

-- what the pieces that were read make, from two buffers of zeros on; nothing where the text could not be read
pub record HandsInput (reference : Automaton) (τ : Target) (r : Output) : Type 0 where
  pub told : Result Told Told
  pub prefix : List ℕ
  pub loop : List ℕ
  pub from : FromPieces (replicate prefix_room 0) prefix (replicate loop_room 0) loop told reference τ
  pub handed : MatchResult told (λ t. HandsDecoded t.decoded prefix loop r) (λ t. r ≡ unworded 0)
