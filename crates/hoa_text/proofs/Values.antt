-- The value of a number in a text, digit by digit.
use Rattle.std.specs.Prelude.{◌≡◌, refl, List, [], ◌∷◌, ◌++◌, ℕ, ◌+◌, ◌-◌, ◌*◌, ◌≤◌, ◌<◌, min, length, get_or}
use Rattle.std.proofs.Common.{ap, ◌∙◌, arith}
use Rattle.std.proofs.Math.Seq.{slice}
use Rattle.hoa_text.specs.Tokens.{decimal_value, value}
use Rattle.hoa_text.specs.Numbers.{slice_more}

decimal_value_more : (v : ℕ) (w : List ℕ) (b : ℕ) → decimal_value v (w ++ (b ∷ [])) ≡ decimal_value v w * 10 + (b - 48)
decimal_value_more v [] b = refl
decimal_value_more v (c ∷ w) b = decimal_value_more (v * 10 + (c - 48)) w b

value_more : (w : List ℕ) (b : ℕ) → value (w ++ (b ∷ [])) ≡ min (value w * 10 + (b - 48)) 255
value_more w b = ap (λ n. min n 255) (decimal_value_more 0 w b) ∙ saturated (decimal_value 0 w) (b - 48)
  where
    saturated : (n d : ℕ) → min (n * 10 + d) 255 ≡ min (min n 255 * 10 + d) 255
    saturated n d = omega arith

-- ---- the digits from i up to e

module _ (s : List ℕ) (i e : ℕ) where
  -- one more digit
  pub value_next : i ≤ e → e < length s → value (slice i (e + 1) s) ≡ min (value (slice i e s) * 10 + (get_or s e 0 - 48)) 255
  value_next h g = ap value (slice_more s i e h g) ∙ value_more (slice i e s) (get_or s e 0)
