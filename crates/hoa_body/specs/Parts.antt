-- What the answer of the function that reads a part of the body says: a state, an edge or the end.
use Rattle.std.specs.Prelude.{◌≡◌, Result as Read, Ok, Err, Bool, List, ℕ, ◌≤◌, ◌<◌, length}
use Rattle.automaton.specs.declared.Automaton.{Automaton}
use Rattle.refusals.specs.declared.Refusal.{Refusal}
use Rattle.hoa_text.specs.Tokens.{Stream, left}
use Rattle.hoa_text.specs.Grammar.{Result, gives, refuses, Turn, again, done}
use Rattle.hoa_text.specs.Header.{Header}
use Rattle.hoa_text.specs.Body.{Current, Table, with_state, with_edge, body_read}
use Rattle.hoa_formulas.specs.Answers.{Members}
use Rattle.hoa_body.specs.declared.parts.Part.{Part}
use Rattle.hoa_body.specs.declared.parts.Part.TheVariants.{State, Edge, End}
use Rattle.hoa_body.specs.declared.Table as Code
use Rattle.hoa_body.specs.Answers.{Opens, current_of, Holds}

-- a part that ends at e, behind i
pub record Passes (s : List ℕ) (i e : ℕ) : Type 0 where
  pub from : i < e
  pub to : e ≤ length s

-- an edge of q to d
pub record EdgePasses (s : List ℕ) (i q d e : ℕ) : Type 0 where
  pub from : i < e
  pub to : e ≤ length s
  pub state_lt : q < 16
  pub destination_lt : d < 16

-- where a part lies
abbrev pub Lies : List ℕ → ℕ → Part → Type 0
Lies s i (State p m e) = (p < 16) × Passes s i e
Lies s i (Edge c x) = EdgePasses s i c.state x.destination x.end
Lies s i (End e) = Passes s i e

abbrev pub PartLies : List ℕ → ℕ → Read Part Refusal → Type 0
PartLies s i (Ok p) = Lies s i p
PartLies s i (Err z) = Unit {0}

-- a turn of the body
abbrev pub BodyTurn : Type 0
BodyTurn = Result (Turn Table (Table × Stream))

-- x goes on behind an edge of c for the letters of the set
pub record Edged (h : Header) (t : Table) (c : Current) (s : List ℕ) (x : BodyTurn) (set d m e : ℕ) : Type 0 where
  pub for : ℕ → Bool
  pub letters : Members set for
  pub is : x ≡ gives (again (with_edge h t c for d m) (left s e))

-- what x, a turn of the body, is by the answer
abbrev pub Means : Header → Table → List ℕ → BodyTurn → Part → Type 0
Means h t s x (State p m e) = x ≡ gives (again (with_state t p m) (left s e))
Means h t s x (Edge c y) = Edged h t (current_of c) s x y.letters y.destination y.marks y.end
Means h t s x (End e) = x ≡ gives (done (t, left s e))

abbrev pub PartMeans : Header → Table → List ℕ → BodyTurn → Read Part Refusal → Type 0
PartMeans h t s x (Ok p) = Means h t s x p
PartMeans h t s x (Err z) = x ≡ refuses z

-- what stands at i, with the header's value a and the table u
pub record PartAnswer (s : List ℕ) (i : ℕ) (a : Automaton) (u : Code.Table) (r : Read Part Refusal) : Type 0 where
  pub lies : PartLies s i r
  pub means : (h : Header) (t : Table) → Opens a h → Holds h t u → PartMeans h t s (body_read h t (left s i)) r
