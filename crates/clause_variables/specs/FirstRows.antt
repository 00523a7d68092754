-- A row as the code counts its first paths.
use Rattle.std.specs.Prelude.{◌≡◌, cond, ◌&&◌, ℕ, ◌+◌, ◌*◌, ◌≤◌, ◌<◌, ltb}
use Rattle.meaning.specs.BitSet.{has}
use Rattle.meaning.specs.Counting.{how_many}
use Rattle.encoding.specs.Variables.{path}
use Rattle.clause_sizes.specs.declared.Sizes.{Sizes}
use Rattle.clause_sizes.specs.Sizes.{Fitting}
use Rattle.clause_sizes.specs.Numbers.{InFile, NumberIfAny}
use Rattle.clause_variables.specs.declared.firsts.FirstRow.{FirstRow}

-- r is the part of a set below states
pub record Cut (set states r : ℕ) : Type 0 where
  pub members : (v : ℕ) → v < 16 → has r v ≡ (ltb v states && has set v)

-- the number for v: the first one, and the width for each state of the row below v
abbrev pub first_at : FirstRow → ℕ → ℕ
first_at r v = cond (has r.set v) (r.first + how_many v (has r.set) * r.width) 0

pub record FirstRowOf (z : Sizes) (q u p : ℕ) (r : FirstRow) : Type 0 where
  pub first_le : r.first ≤ 4199425
  pub width_le : r.width ≤ 256
  pub each : (v : ℕ) → v < 16 → NumberIfAny z (path q u p v 0 0) (first_at r v)

-- no file of these sizes has a path in the row
pub record Pathless (z : Sizes) (q u p : ℕ) : Type 0 where
  pub none : (v : ℕ) → ¬ (Fitting z × InFile z (path q u p v 0 0))
