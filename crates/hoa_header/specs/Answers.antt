-- DEFINITION of what the answer of `header` says (`Answers`): the header that the text has, as an automaton, or the refusal.
use Rattle.std.specs.Prelude.{◌≡◌, Result, Ok, Err, true, List, ℕ, ◌-◌, ◌≤◌, length, drop}
use Rattle.automaton.specs.declared.Automaton.{Automaton}
use Rattle.refusals.specs.declared.Refusal.{Refusal}
use Rattle.automaton.specs.Bytes.{bytes}
use Rattle.hoa_text.specs.Basics.{begins}
use Rattle.hoa_text.specs.Tokens.{tokens, left}
use Rattle.hoa_text.specs.Grammar.{gives, refuses, Parsed}
use Rattle.hoa_text.specs.Header.{Header, header}
use Rattle.hoa_text.specs.Body.{no_states}
use Rattle.hoa_text.specs.Reading.{made}
use Rattle.hoa_header.specs.declared.HeaderRead.{HeaderRead}

-- x gives a header; a is its automaton, with no transitions yet, and e is directly behind the word `--BODY--`
pub record Opened (s : List ℕ) (x : Parsed Header) (a : Automaton) (e : ℕ) : Type 0 where
  pub header : Header
  pub is : x ≡ gives (header, left s e)
  pub automaton : a ≡ made header no_states
  pub to : e ≤ length s
  pub behind : begins (bytes "--BODY--") (drop (e - 8) s) ≡ true

abbrev pub Answered : List ℕ → Parsed Header → Result HeaderRead Refusal → Type 0
Answered s x (Ok r) = Opened s x r.automaton r.end
Answered s x (Err z) = x ≡ refuses z

abbrev pub Answers : List ℕ → Result HeaderRead Refusal → Type 0
Answers s r = Answered s (header (tokens s)) r
