-- What the answer of a function that reads a part of an edge says.
use Rattle.std.specs.Prelude.{◌≡◌, Bool, List, ℕ, ◌≤◌, ◌<◌, Result}
use Rattle.refusals.specs.declared.Refusal.{Refusal}
use Rattle.hoa_text.specs.Grammar.{then}
use Rattle.hoa_text.specs.Formulas.{Formula}
use Rattle.hoa_text.specs.Header.{Header}
use Rattle.hoa_text.specs.Body.{Current, Table, marked, marks_given, label_given}
use Rattle.hoa_text.specs.Tokens.{left}
use Rattle.hoa_formulas.specs.Answers.{Members, Satisfy}
use Rattle.hoa_edges.specs.declared.EdgeRead.{EdgeRead}
use Rattle.hoa_edges.specs.Answers.{EdgeLies, EdgeMeans}

-- behind a label whose letters are the set
pub record LabelledAnswer (s : List ℕ) (i n m set : ℕ) (r : Result EdgeRead Refusal) : Type 0 where
  pub lies : EdgeLies s i n r
  pub means : (h : Header) (t : Table) (c : Current) (f : Formula) → m ≤ 4 → h.states ≡ n → h.sets ≡ m → Satisfy set f
      → EdgeMeans h t c s (label_given h t c f (left s i)) r

-- behind the destination d
pub record MarkedAnswer (s : List ℕ) (i m set d : ℕ) (r : Result EdgeRead Refusal) : Type 0 where
  pub lies : (b n : ℕ) → b < i → d < n → EdgeLies s b n r
  pub means : (h : Header) (t : Table) (c : Current) (f : ℕ → Bool) → h.sets ≡ m → Members set f
      → EdgeMeans h t c s (then (marked h.sets (left s i)) (marks_given h t c f d)) r
