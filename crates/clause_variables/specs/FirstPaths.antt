-- DEFINITION: the numbers of a row's first paths.
use Rattle.std.specs.Prelude.{List, ℕ, ◌<◌, get_or}
use Rattle.encoding.specs.Variables.{path}
use Rattle.clause_sizes.specs.declared.Sizes.{Sizes}
use Rattle.clause_sizes.specs.Numbers.{NumberIfAny}

-- for each reference state v the number of path(q, u, p, v, 0, 0), or 0 where there is none
pub record FirstPaths (z : Sizes) (q u p : ℕ) (numbers : List ℕ) : Type 0 where
  pub each : (v : ℕ) → v < 16 → NumberIfAny z (path q u p v 0 0) (get_or numbers v 0)
