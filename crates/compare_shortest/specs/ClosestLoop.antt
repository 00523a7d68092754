-- The first loop at a node that is a hit, as a search from that node finds it.
use Rattle.std.specs.Prelude.{◌≡◌, List, ◌++◌, ℕ, ◌≤◌, ◌<◌, length, drop}
use Rattle.compare_shortest.specs.SearchOrder.{NotLater}
use Rattle.compare_shortest.specs.Graph.{HitLoop}

-- the length of a shortest loop of at most `bound` letters that is a hit, or 0 where there is none
pub record LoopLength (D H : List ℕ) (L v bound r : ℕ) : Type 0 where
  pub none : r ≡ 0 → (y : List ℕ) → HitLoop D H L v y → bound < length y
  pub found : 0 < r → (y : List ℕ) × HitLoop D H L v y × (length y ≡ r)
  pub least : (y : List ℕ) → HitLoop D H L v y → r ≤ length y
  pub fits : r ≤ bound

-- the first loop that is a hit, of r letters, stands in the front of a buffer, whose rest is as it was
pub record FirstLoop (D H : List ℕ) (L v : ℕ) (out written : List ℕ) (r : ℕ) : Type 0 where
  pub loop : List ℕ
  pub is_hit : HitLoop D H L v loop
  pub first : (y : List ℕ) → HitLoop D H L v y → NotLater loop y
  pub size : length loop ≡ r
  pub fits : r ≤ length out
  pub there : written ≡ loop ++ drop r out

-- there is such a loop that fits the buffer, or r is 0
pub record LoopWritten (D H : List ℕ) (L v : ℕ) (out written : List ℕ) (r : ℕ) : Type 0 where
  pub none : r ≡ 0 → (y : List ℕ) → HitLoop D H L v y → length out < length y
  pub found : 0 < r → FirstLoop D H L v out written r
