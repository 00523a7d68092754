-- What the answer of a function that judges an edge, or whether one may stand here, says.
use Rattle.std.specs.Prelude.{◌≡◌, Result, Ok, Bool, true, false, List, ℕ, ◌<◌, eqb}
use Rattle.automaton.specs.declared.Automaton.{Automaton}
use Rattle.refusals.specs.declared.Refusal.{Refusal}
use Rattle.refusals.specs.declared.Refusal.TheVariants.{Form}
use Rattle.hoa_text.specs.Tokens.{Stream, left}
use Rattle.hoa_text.specs.Grammar.{rest, at, refuses, Parsed, onward}
use Rattle.hoa_text.specs.Header.{Header}
use Rattle.hoa_text.specs.Body.{Table, letters, unlabelled, edge, with_label, without_label, labelled_edge, listed_edge}
use Rattle.hoa_text.specs.Body as Hoa
use Rattle.hoa_edges.specs.declared.EdgeRead.{EdgeRead}
use Rattle.hoa_edges.specs.Answers.{EdgeLies, EdgeMeans}
use Rattle.hoa_body.specs.declared.parts.Part.{Part}
use Rattle.hoa_body.specs.declared.Current.{Current}
use Rattle.hoa_body.specs.declared.Table as Code
use Rattle.hoa_body.specs.Answers.{Opens, current_of, Holds}
use Rattle.hoa_body.specs.Parts.{PartLies, PartMeans}

-- ---- the two kinds: how an edge of c is read from x on, behind its `[` or from its destination on

abbrev pub Reader : Type 0
Reader = Header → Table → Current → Stream → Parsed Table

abbrev pub labelled : Reader
labelled h t c x = edge h t (with_label (current_of c)) x

abbrev pub listed : Reader
listed h t c x = unlabelled h t (without_label (current_of c)) (λ l. eqb l c.listed) x

-- ---- whether an edge may stand here

-- r says whether the edge of c is read, as `given` says, or refused at its first token: under every header that K holds of
pub record Takes (c : Current) (r : Bool) (K : Header → Type 0) (asked : Header → Table → Stream → Hoa.Current → Parsed Table)
    (given : Header → Table → Stream → Parsed Table) : Type 0 where
  pub taken : r ≡ true → (h : Header) (t : Table) (x : Stream) → K h → asked h t x (current_of c) ≡ given h t x
  pub refused : r ≡ false → (h : Header) (t : Table) (x : Stream) → K h → asked h t x (current_of c) ≡ refuses (Form (at x))

abbrev pub TakesLabel : Current → Bool → Type 0
TakesLabel c r = Takes c r (λ h. Unit {0}) labelled_edge (λ h t x. labelled h t c (rest x))

-- of n letters
pub record TakesListed (c : Current) (n : ℕ) (r : Bool) : Type 0 where
  pub takes : Takes c r (λ h. letters h ≡ n) listed_edge (λ h t x. listed h t c x)
  pub listed_lt : r ≡ true → c.listed < n

-- ---- the edge

-- of c, from i on, with the header's value a and the table u
pub record EdgeOf (given : Reader) (s : List ℕ) (i : ℕ) (a : Automaton) (u : Code.Table) (c : Current) (r : Result Part Refusal) : Type 0 where
  pub lies : PartLies s i r
  pub means : (h : Header) (t : Table) → Opens a h → Holds h t u → PartMeans h t s (onward (given h t c (left s i))) r

-- an edge of c that was read
pub record FirstAnswer (read : EdgeRead) (c : Current) (a : Automaton) (u : Code.Table) (r : Result Part Refusal) : Type 0 where
  pub lies : (s : List ℕ) (i : ℕ) → EdgeLies s i a.states (Ok read) → PartLies s i r
  pub means : (h : Header) (t : Table) (s : List ℕ) (x : Parsed Table) → Opens a h → Holds h t u → EdgeMeans h t (current_of c) s x (Ok read)
      → PartMeans h t s (onward x) r
