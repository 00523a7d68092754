-- DEFINITIONS of what the answers of `edge` and `unlabelled` say (`EdgeAnswer`, `UnlabelledAnswer`): the edge that the text has, or the refusal.
use Rattle.std.specs.Prelude.{◌≡◌, Bool, List, ℕ, ◌≤◌, ◌<◌, length, Result, Ok, Err}
use Rattle.refusals.specs.declared.Refusal.{Refusal}
use Rattle.refusals.specs.declared.Refusal.TheVariants.{Outside}
use Rattle.hoa_text.specs.Grammar.{refuses, Parsed}
use Rattle.hoa_text.specs.Header.{Header}
use Rattle.hoa_text.specs.Body.{Current, Table, marks_given, unlabelled, edge}
use Rattle.hoa_text.specs.Tokens.{left}
use Rattle.hoa_formulas.specs.Answers.{Members}
use Rattle.hoa_edges.specs.declared.EdgeRead.{EdgeRead}

-- the offset e behind an edge to d, which is one of n states
pub record Reaches (s : List ℕ) (i n d e : ℕ) : Type 0 where
  pub below : d < n
  pub from : i < e
  pub to : e ≤ length s

-- where it lies
abbrev pub EdgeLies : List ℕ → ℕ → ℕ → Result EdgeRead Refusal → Type 0
EdgeLies s i n (Ok r) = Reaches s i n r.destination r.end
EdgeLies s i n (Err r) = Unit {0}

-- x is what follows an edge of c to d, for the letters of the set, with the marks m, up to e
pub record Arrives (h : Header) (t : Table) (c : Current) (s : List ℕ) (x : Parsed Table) (set d m e : ℕ) : Type 0 where
  pub for : ℕ → Bool
  pub letters : Members set for
  pub is : x ≡ marks_given h t c for d m (left s e)

-- what x is by the answer
abbrev pub EdgeMeans : Header → Table → Current → List ℕ → Parsed Table → Result EdgeRead Refusal → Type 0
EdgeMeans h t c s x (Ok r) = Arrives h t c s x r.letters r.destination r.marks r.end
EdgeMeans h t c s x (Err r) = x ≡ refuses r

-- behind the `[`, with n states, k propositions and m sets: "0 to 4" sets
pub record EdgeAnswer (s : List ℕ) (i n k m : ℕ) (r : Result EdgeRead Refusal) : Type 0 where
  pub lies : EdgeLies s i n r
  pub means : m ≤ 4 → (h : Header) (t : Table) (c : Current) → h.states ≡ n → length h.names ≡ k → h.sets ≡ m
      → EdgeMeans h t c s (edge h t c (left s i)) r
  pub outside : 4 < m → r ≡ Err Outside

-- without its label, for the letters of the set
pub record UnlabelledAnswer (s : List ℕ) (i n m set : ℕ) (r : Result EdgeRead Refusal) : Type 0 where
  pub lies : EdgeLies s i n r
  pub means : m ≤ 4 → (h : Header) (t : Table) (c : Current) (f : ℕ → Bool) → h.states ≡ n → h.sets ≡ m → Members set f
      → EdgeMeans h t c s (unlabelled h t c f (left s i)) r
  pub outside : 4 < m → r ≡ Err Outside
