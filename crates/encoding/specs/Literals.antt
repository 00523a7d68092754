-- The two literals of a variable.
use Rattle.std.specs.Prelude.{◌≡◌, ◌⊎◌, ℕ, ℤ, pos, neg_ℤ}
use Rattle.encoding.specs.Variables.{Var}

-- the literal is the variable y, or its negative
abbrev pub IsLiteral : (Var → ℕ) → ℤ → Var → Type 0
IsLiteral num x y = (x ≡ pos (num y)) ⊎ (x ≡ neg_ℤ (pos (num y)))
