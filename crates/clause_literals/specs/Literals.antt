-- DEFINITION: the literal of a variable.
use Rattle.std.specs.Prelude.{◌≡◌, ℕ, ◌≤◌, ◌<◌, ℤ, pos}

-- on all input: the literal of a variable, or 0, which is none, where 32 bits do not hold the variable and a sign
pub record LiteralIfAny (variable : ℕ) (literal r : ℤ) : Type 0 where
  pub there : variable < 2_147_483_648 → r ≡ literal
  pub none : 2_147_483_648 ≤ variable → r ≡ pos 0
