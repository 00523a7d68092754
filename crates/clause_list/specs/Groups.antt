-- One clause of groups 1, 2 and 3, by the sizes, the indices, and the reference's step w and marks F. That they are the clauses of the file is
-- proved in `Position`.
use Rattle.std.specs.Prelude.{List, [], ◌∷◌, ◌++◌, ℕ, ◌<◌, ℤ, pos, neg_ℤ}
use Rattle.encoding.specs.Variables.{Var, step, path}
use Rattle.encoding.specs.Clauses.{each, ◌∪◌}
use Rattle.clause_sizes.specs.declared.Sizes.{Sizes}
use Rattle.clause_sizes.specs.Numbers.{number_of}
use Rattle.clause_indices.specs.declared.Indices.{Indices}
use Rattle.clause_indices.specs.Indices.{premise_of}

-- the steps from q by l to the first k states
abbrev pub totality_of : Sizes → (q l k : ℕ) → List ℤ
totality_of z q l k = each k λ p. pos (number_of z (step q l p)) ∷ []

abbrev pub initial_of : Sizes → (start : ℕ) → List ℤ
initial_of z start = pos (number_of z (path 0 start 0 start 0 0)) ∷ []

pub record Successive (z : Sizes) (q p u l w : ℕ) : Type 0 where
  pub q_lt : q < z.candidate.states
  pub p_lt : p < z.candidate.states
  pub u_lt : u < z.reference.states
  pub l_lt : l < z.letters
  pub w_lt : w < z.reference.states

abbrev pub successor_of : Sizes → (q p u l w : ℕ) → List ℤ
successor_of z q p u l w =
    neg_ℤ (pos (number_of z (path q u q u 0 0))) ∷ neg_ℤ (pos (number_of z (step q l p))) ∷ pos (number_of z (path p w p w 0 0)) ∷ []

-- "then path(q,u,t,w,I∪K,J∪F)"
abbrev pub last_path : Indices → (w F : ℕ) → Var
last_path x w F = path x.q.0 x.u.0 x.t.0 w (x.i ∪ x.k) (x.j ∪ F)

abbrev pub extension_of : Sizes → Indices → (w F : ℕ) → List ℤ
extension_of z x w F = premise_of z x ++ (pos (number_of z (last_path x w F)) ∷ [])
