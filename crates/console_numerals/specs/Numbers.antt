-- DEFINITION: an argument as a number: digits only, at least one, and below 2^64.
use Rattle.std.specs.Prelude.{Bool, true, false, cond, ◌&&◌, List, [], ◌∷◌, ℕ, ◌^◌, ltb, Option, Some, None}
use Rattle.hoa_text.specs.Tokens.{digit, decimal_value}

abbrev pub all_digits : List ℕ → Bool
all_digits [] = true
all_digits (b ∷ w) = digit b && all_digits w

abbrev pub some_byte : List ℕ → Bool
some_byte [] = false
some_byte (b ∷ w) = true

abbrev pub number_of : List ℕ → Option ℕ
number_of w = cond (some_byte w && (all_digits w && ltb (decimal_value 0 w) (2 ^ 64))) (Some (decimal_value 0 w)) None
