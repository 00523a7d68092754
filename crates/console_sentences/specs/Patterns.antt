-- The most bytes that a filled pattern can have.
use Rattle.std.specs.Prelude.{cond, ◌||◌, List, [], ◌∷◌, ℕ, ◌+◌, eqb}
use Prim.Native.Char.{code}

abbrev pub cost : ℕ → ℕ
cost b = cond (eqb b (code "@") || (eqb b (code "~") || (eqb b (code "#") || eqb b (code "$")))) 20 1

abbrev pub most : List ℕ → ℕ
most [] = 0
most (b ∷ s) = cost b + most s
