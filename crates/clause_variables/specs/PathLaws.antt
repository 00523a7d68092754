-- The paths between four states follow the first of them.
use Rattle.std.specs.Prelude.{◌≡◌, ℕ, ◌+◌, ◌*◌}
use Rattle.std.proofs.Common.{arith}
use Rattle.encoding.specs.Variables.{path}
use Rattle.clause_sizes.specs.declared.Sizes.{Sizes}
use Rattle.clause_sizes.specs.Sizes.{Fitting}
use Rattle.clause_sizes.specs.Numbers.{number_of}

pub from_first : {z : Sizes} → Fitting z → (q u p v I J : ℕ) → number_of z (path q u p v I J) ≡ number_of z (path q u p v 0 0) + (I * z.reference.subsets + J)
from_first f q u p v I J = rw f.reference_subsets (omega arith)
