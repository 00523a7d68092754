-- What the functions at the end of the body answer: missing states and edges, the value.
use Rattle.std.specs.Prelude.{◌≡◌, Option as Given, Some, None, Result, List, ℕ, ◌<◌, get_or}
use Rattle.std.proofs.Math.Option.{Option, none, some}
use Rattle.meaning.specs.BitSet.{has}
use Rattle.automaton.specs.declared.Automaton.{Automaton}
use Rattle.refusals.specs.declared.Refusal.{Refusal}
use Rattle.refusals.specs.declared.Refusal.TheVariants.{NoEdge}
use Rattle.hoa_text.specs.Basics.{is_some}
use Rattle.hoa_text.specs.Header.{Header}
use Rattle.hoa_text.specs.Body.{Table, letters}
use Rattle.hoa_text.specs.Reading.{made, no_edge, whole, ended}
use Rattle.hoa_text.specs.Tokens.{left}
use Rattle.hoa_body.specs.declared.Table as Code
use Rattle.hoa_body.specs.Answers.{Opens, Holds}
use Rattle.hoa_read.specs.Told.{told}
use Rattle.hoa_read.specs.declared.missing.Gap.{Gap}

-- the refusal that a gap gives
abbrev pub gap_told : Given Gap → Option Refusal
gap_told (Some g) = some (NoEdge g.state g.letter)
gap_told None = none

-- among n states and L letters, for each state the set of the letters that have an edge
abbrev pub GapAnswer : List ℕ → ℕ → ℕ → Given Gap → Type 0
GapAnswer given n L r =
    (h : Header) (t : Table) → h.states ≡ n → letters h ≡ L → ((q l : ℕ) → q < n → l < L → has (get_or given q 0) l ≡ is_some (t.edge q l)) → no_edge h t ≡ gap_told r

-- after the whole text, which ends at o
abbrev pub WholeAnswer : Automaton → Code.Table → ℕ → Result Automaton Refusal → Type 0
WholeAnswer a u o r = (h : Header) (t : Table) → Opens a h → Holds h t u → r ≡ told (whole h t o)

-- behind `--END--`
abbrev pub EndedAnswer : List ℕ → ℕ → Automaton → Code.Table → Result Automaton Refusal → Type 0
EndedAnswer s i a u r = (h : Header) (t : Table) → Opens a h → Holds h t u → r ≡ told (ended h t (left s i))

-- the value that is read
abbrev pub MadeAnswer : Automaton → Code.Table → Automaton → Type 0
MadeAnswer a u r = (h : Header) (t : Table) → Opens a h → Holds h t u → r ≡ made h t
