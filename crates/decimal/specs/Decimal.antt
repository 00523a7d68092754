-- DEFINITION: decimal text, as bytes, of every number below 10^20, so of every 64-bit number.
use Rattle.std.specs.Prelude.{cond, List, [], ◌∷◌, ℕ, zero, suc, ◌+◌, ◌/◌, ◌%◌, ◌^◌, ltb}

-- the last k digits of n, the most significant first; the byte of the digit 0 is 48
abbrev pub digits : ℕ → ℕ → List ℕ
digits zero n = []
digits (suc k) n = (48 + n / 10 ^ k) ∷ digits k (n % 10 ^ k)

-- the first number c, counted from the given one on and at most k further, with n < 10^c
abbrev pub places : ℕ → ℕ → ℕ → ℕ
places zero c n = c
places (suc k) c n = let more = places k (c + 1) n in cond (ltb n (10 ^ c)) c more

-- as many digits as n needs, so that none leads in vain, but at least one: 0 is "0"
unfoldable pub decimal : ℕ → List ℕ
decimal n = digits (places 19 1 n) n
