-- What the answer of a function that reads a state, or a part of it, says.
use Rattle.std.specs.Prelude.{◌≡◌, Result, List, ℕ, ◌≤◌, ◌<◌, length}
use Rattle.meaning.specs.BitSet.{has}
use Rattle.automaton.specs.declared.Automaton.{Automaton}
use Rattle.refusals.specs.declared.Refusal.{Refusal}
use Rattle.hoa_text.specs.Tokens.{left}
use Rattle.hoa_text.specs.Grammar.{onward}
use Rattle.hoa_text.specs.Header.{Header}
use Rattle.hoa_text.specs.Body.{Table, unquoted, state_marked, state_item}
use Rattle.hoa_body.specs.declared.parts.Part.{Part}
use Rattle.hoa_body.specs.Answers.{Opens}
use Rattle.hoa_body.specs.Parts.{PartLies, PartMeans}

-- behind `State:`, with the header's value a
pub record StateAnswer (s : List ℕ) (i : ℕ) (a : Automaton) (named : ℕ) (r : Result Part Refusal) : Type 0 where
  pub lies : PartLies s i r
  pub means : (h : Header) (t : Table) → Opens a h → ((p : ℕ) → p < 16 → has named p ≡ t.named p) → PartMeans h t s (onward (state_item h t (left s i))) r

-- behind the number p, with m sets
pub record StateMarkedAnswer (s : List ℕ) (i m p : ℕ) (r : Result Part Refusal) : Type 0 where
  pub lies : (b : ℕ) → b < i → PartLies s b r
  pub means : (h : Header) (t : Table) → h.sets ≡ m → PartMeans h t s (onward (state_marked h t p (left s i))) r

-- the offset r behind a quoted text at i, or i itself
pub record Unquoted (s : List ℕ) (i r : ℕ) : Type 0 where
  pub is : left s r ≡ unquoted (left s i)
  pub from : i ≤ r
  pub to : r ≤ length s
