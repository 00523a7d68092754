-- What a table says of the variables; and every candidate is a table.
use Rattle.std.specs.Prelude.{◌≡◌, Bool, ℕ}
use Rattle.std.proofs.Math.Dec.{eqb}
use Rattle.meaning.specs.Automata.{Aut}
use Rattle.encoding.specs.Variables.{Task, Var, step, mark, path}
use Rattle.encoding.specs.Clauses.{Candidate}

-- the candidate with the transitions δ and the marks μ
abbrev pub table : Task → (ℕ → ℕ → ℕ) → (ℕ → ℕ → ℕ → Bool) → Aut
table T δ μ = record {
  states = T.n;
  letters = T.reference.letters;
  sets = T.m;
  start = 0;
  step = δ;
  marks = μ;
  accept = T.accept;
}

-- every candidate is such a table
pub is_table : {T : Task} {C : Aut} → Candidate T C → C ≡ table T C.step C.marks
is_table {T} {C} c = λ i. record {
  states = c.states i;
  letters = c.letters i;
  sets = c.sets i;
  start = c.start i;
  step = C.step;
  marks = C.marks;
  accept = λ S. c.accept S i;
}

-- what a table says of each variable; π says it of the paths
abbrev pub valuation : (δ : ℕ → ℕ → ℕ) (μ : ℕ → ℕ → ℕ → Bool) (π : (q u p v I J : ℕ) → Bool) → Var → Bool
valuation δ μ π (step q l p) = eqb (δ q l) p
valuation δ μ π (mark q l i p) = μ q l i
valuation δ μ π (path q u p v I J) = π q u p v I J
