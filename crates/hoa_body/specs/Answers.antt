-- DEFINITIONS of what the answer of `body` says (`BodyAnswer`): the table that the body gives, as the code keeps it (`Holds`), or the refusal.
use Rattle.std.specs.Prelude.{◌≡◌, Option as Given, Some, None, Result, Ok, Err, List, ℕ, ◌≤◌, ◌<◌, get_or}
use Rattle.std.proofs.Math.Option.{Option, none, some}
use Rattle.meaning.specs.BitSet.{has}
use Rattle.automaton.specs.declared.Automaton.{Automaton}
use Rattle.automaton.specs.Value.{rows}
use Rattle.refusals.specs.declared.Refusal.{Refusal}
use Rattle.refusals.specs.declared.Refusal.TheVariants.{Outside}
use Rattle.hoa_text.specs.Basics.{option, is_some}
use Rattle.hoa_text.specs.Tokens.{left}
use Rattle.hoa_text.specs.Grammar.{gives, refuses, Parsed}
use Rattle.hoa_text.specs.Header.{Header}
use Rattle.hoa_text.specs.Body.{letters, no_states, body}
use Rattle.hoa_text.specs.Body as Hoa
use Rattle.hoa_text.specs.Reading.{made}
use Rattle.hoa_body.specs.declared.Current.{Current}
use Rattle.hoa_body.specs.declared.Table.{Table}
use Rattle.hoa_body.specs.declared.BodyRead.{BodyRead}

-- ---- what the header hands over

-- the counts and names of the header h, and no transition
abbrev pub Opens : Automaton → Header → Type 0
Opens a h = a ≡ made h no_states

-- "1 to 16" states, "0 to 4" sets, "Propositions k: 0 to 4"; what is said of the start is not needed here
pub record Bounded (a : Automaton) : Type 0 where
  pub states_le : a.states ≤ 16
  pub propositions_le : a.propositions ≤ 4
  pub sets_le : a.sets ≤ 4

-- ---- the table

-- the current state, as the code keeps it
abbrev pub current_of : Current → Hoa.Current
current_of c = record { state = c.state; shared = c.shared; labelled = c.labelled; listed = c.listed }

-- none before the first
abbrev pub current : Given Current → Option Hoa.Current
current None = none
current (Some c) = some (current_of c)

-- it is one of the 16
abbrev pub CurrentFits : Given Current → Type 0
CurrentFits None = Unit {0}
CurrentFits (Some c) = c.state < 16

-- the states that were named, the letters that have an edge, the current state, and the entries that the value will have
pub record Holds (h : Header) (t : Hoa.Table) (u : Table) : Type 0 where
  pub named : (q : ℕ) → q < 16 → has u.named q ≡ t.named q
  pub given : (q l : ℕ) → q < 16 → l < letters h → has (get_or u.given q 0) l ≡ is_some (t.edge q l)
  pub current_is : t.current ≡ current u.current
  pub destinations : u.destinations ≡ rows 16 (λ q l. option (t.edge q l) 0 (λ e. e.destination))
  pub marks : u.marks ≡ rows 16 (λ q l. option (t.edge q l) 0 (λ e. e.marks))

-- ---- the answer

-- x gives the table that u holds, and the text behind `--END--` begins at e
pub record Ends (h : Header) (s : List ℕ) (x : Parsed Hoa.Table) (u : Table) (e : ℕ) : Type 0 where
  pub table : Hoa.Table
  pub is : x ≡ gives (table, left s e)
  pub holds : Holds h table u

abbrev pub Answered : Header → List ℕ → Parsed Hoa.Table → Result BodyRead Refusal → Type 0
Answered h s x (Ok r) = Ends h s x r.table r.end
Answered h s x (Err z) = x ≡ refuses z

-- the body at i, for every header that hands a over
abbrev pub BodyOf : List ℕ → ℕ → Automaton → Result BodyRead Refusal → Type 0
BodyOf s i a r = (h : Header) → Opens a h → Answered h s (body h (left s i)) r

pub record BodyAnswer (s : List ℕ) (i : ℕ) (a : Automaton) (r : Result BodyRead Refusal) : Type 0 where
  pub is : Bounded a → BodyOf s i a r
  pub outside : ¬ (Bounded a) → r ≡ Err Outside
