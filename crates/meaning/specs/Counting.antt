-- DEFINITIONS of `each`, a list that is made by counting, and of sums and counts.
use Rattle.std.specs.Prelude.{Bool, List, [], ◌++◌, ℕ, zero, suc, ◌+◌}
use Rattle.meaning.specs.BitSet.{bit}

-- f 0, f 1, .., n of them, one after another
abbrev pub each : {A : Type 0} → ℕ → (ℕ → List A) → List A
each zero f = []
each (suc n) f = each n f ++ f n

-- f 0 + .. + f (n - 1)
unfoldable pub total : ℕ → (ℕ → ℕ) → ℕ
total zero f = 0
total (suc n) f = total n f + f n

-- how many of the numbers below n pass the test
abbrev pub how_many : ℕ → (ℕ → Bool) → ℕ
how_many n f = total n (λ i. bit (f i))
