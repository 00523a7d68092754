-- DEFINITIONS: whether there are path variables between two reference states, on all input; and a row.
use Rattle.std.specs.Prelude.{◌≡◌, Bool, false, ℕ, ◌≤◌, ◌<◌, get_or}
use Rattle.clause_sizes.specs.declared.Sizes.{Sizes}
use Rattle.clause_sizes.specs.Numbers.{kept_among, before, in_row}
use Rattle.clause_variables.specs.declared.rows.Row.{Row}

-- a file has 16 rows at the most
pub record KeptIfAny (z : Sizes) (u v : ℕ) (r : Bool) : Type 0 where
  pub there : u < 16 → r ≡ kept_among z u v
  pub none : 16 ≤ u → r ≡ false

pub record RowOf (z : Sizes) (u : ℕ) (r : Row) : Type 0 where
  pub set_is : r.set ≡ get_or z.paths.sets u 0
  pub size_is : r.size ≡ in_row z u
  pub size_le : r.size ≤ 16
  pub before_is : r.before ≡ before z u
  pub before_le : r.before ≤ 255
