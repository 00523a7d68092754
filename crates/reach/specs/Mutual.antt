-- Pairs of states that are reached from one another. All pairs stand one after another, u and v at u * 16 + v.
use Rattle.std.specs.Prelude.{◌≡◌, false, ◌&&◌, List, ℕ, ◌+◌, ◌*◌, ◌≤◌, ◌<◌, length, get_or}
use Rattle.meaning.specs.BitSet.{has}

-- of the first n pairs, v is in row u where each is in the other's row of `reached`; no other pair is there
pub record Mutual (reached : List ℕ) (n : ℕ) (rows : List ℕ) : Type 0 where
  pub size : length rows ≡ 16
  pub small : (u : ℕ) → get_or rows u 0 < 65536
  pub there : (u v : ℕ) → v < 16 → u * 16 + v < n → has (get_or rows u 0) v ≡ (has (get_or reached u 0) v && has (get_or reached v 0) u)
  pub none : (u v : ℕ) → v < 16 → n ≤ u * 16 + v → has (get_or rows u 0) v ≡ false
