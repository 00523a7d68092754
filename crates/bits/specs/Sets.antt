-- DEFINITIONS: the lowest number of a set, and the set of one number.
use Rattle.std.specs.Prelude.{◌≡◌, true, false, cond, ℕ, ◌^◌, ◌≤◌, ◌<◌, ltb}
use Rattle.meaning.specs.BitSet.{has}

-- r is the lowest number of the set below n; it is n where there is none
pub record Lowest (set n r : ℕ) : Type 0 where
  pub to : r ≤ n
  pub lower : (i : ℕ) → i < r → has set i ≡ false
  pub found : r < n → has set r ≡ true

-- i alone, among the 16 numbers that a set can hold
abbrev pub single : ℕ → ℕ
single i = cond (ltb i 16) (2 ^ i) 0
