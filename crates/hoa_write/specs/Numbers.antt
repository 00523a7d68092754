-- A number of HOA text is decimal text.
use Rattle.std.specs.Prelude.{◌≡◌, [], ◌∷◌, ℕ, ◌+◌, ◌/◌, ◌%◌, ◌≤◌, ◌<◌}
use Rattle.std.proofs.Common.{ap, div-one, arith, lt-ltb, le-ltb}
use Rattle.std.proofs.Math.Decide.{dec_lt}
use Rattle.decimal.specs.Decimal.{digits, places, decimal as decimalText}
use Rattle.hoa_text.specs.Written.{decimal}

pub decimal_text : (n : ℕ) → n < 100 → decimalText n ≡ decimal n
unfolding decimalText
decimal_text n h = go (dec_lt n 10)
  where
    go : Dec (n < 10) → digits (places 19 1 n) n ≡ decimal n
    go (yes l) = rw (lt-ltb n 10 l) (ap (λ (d : ℕ). (48 + d) ∷ []) (div-one n))
    go (no l) =
        let t : 10 ≤ n = omega arith in
        rw (le-ltb n 10 t, lt-ltb n 100 h) (ap (λ (d : ℕ). (48 + n / 10) ∷ (48 + d) ∷ []) (div-one (n % 10)))
