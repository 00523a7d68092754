-- A number digit by digit: what is left to read gives the answer of the whole word.
use mathlib.Core.Path.{◌≡◌, refl, sym, ap, ◌∙◌}
use mathlib.Core.Bool.{Bool, true, false, cond, ◌&&◌, true≢false}
use mathlib.Core.List.{List, [], ◌∷◌}
use Prim.Native.Nat.{ℕ, ◌+◌, ◌-◌, ◌*◌, ◌^◌, ◌≤◌, ◌<◌}
use native.Mathlib.Numerals.{add-one}
use native.Mathlib.Omega.{arith}
use borrow.Author.Tests.{lt-ltb, le-ltb, ne_eqb}
use lib.Dec.{ltb, eqb, lit<}
use lib.ListN.{length, get_or, drop, drop_of_length-le}
use lib.Seq.{drop-cons}
use Rattle.hoa_text.specs.Tokens.{digit, decimal_value}
use Rattle.std.specs.Prelude.{Option, Some, None}
use Rattle.console_numerals.specs.Numbers.{all_digits, number_of}

-- the word's answer, where its value so far is v and w is left
abbrev pub rest : ℕ → List ℕ → Option ℕ
rest v w = cond (all_digits w && ltb (decimal_value v w) (2 ^ 64)) (Some (decimal_value v w)) None

pub no_bytes : (w : List ℕ) {t : Bool} → t ≡ eqb (length w) 0 → t ≡ true → None ≡ number_of w
no_bytes [] e h = refl
no_bytes (b ∷ w) e h = absurd (true≢false (sym h ∙ e ∙ ne_eqb (length (b ∷ w)) 0 (omega arith)))

some_bytes : (w : List ℕ) {t : Bool} → t ≡ eqb (length w) 0 → t ≡ false → number_of w ≡ rest 0 w
some_bytes [] e h = absurd (true≢false (sym e ∙ h))
some_bytes (b ∷ w) e h = refl

value_from : (v : ℕ) (w : List ℕ) → v ≤ decimal_value v w
value_from v [] = omega arith
value_from v (b ∷ w) = omega (arith, value_from (v * 10 + (b - 48)) w)

too_large : (v : ℕ) (w : List ℕ) → 2 ^ 64 ≤ v → rest v w ≡ None
too_large v w h =
    ap (λ t. cond (all_digits w && t) (Some (decimal_value v w)) None) (le-ltb (decimal_value v w) (2 ^ 64) (omega (arith, value_from v w)))
    ∙ go (all_digits w)
  where
    go : (t : Bool) → cond (t && false) (Some (decimal_value v w)) None ≡ None
    go true = refl
    go false = refl

module _ (w : List ℕ) where
  -- i digits are read, and v is their value
  pub record Begun (v i : ℕ) : Type 0 where
    pub some : i ≤ length w
    pub small : v < 2 ^ 64
    pub is : number_of w ≡ rest v (drop i w)

  pub begin : {t : Bool} → t ≡ eqb (length w) 0 → t ≡ false → Begun 0 0
  begin e h = record { some = omega arith; small = lit< tt; is = some_bytes w e h }

  module _ {v i : ℕ} (h : i < length w) (p : Begun v i) where
    -- the next byte, by whether it is a digit
    next_byte : (t : Bool) → digit (get_or w i 0) ≡ t
        → number_of w
        ≡ cond ((t && all_digits (drop (i + 1) w)) && ltb (decimal_value v (get_or w i 0 ∷ drop (i + 1) w)) (2 ^ 64))
        (Some (decimal_value v (get_or w i 0 ∷ drop (i + 1) w))) None
    next_byte t e =
        let more : drop i w ≡ get_or w i 0 ∷ drop (i + 1) w = rw (add-one, drop-cons w i 0 h) in
        p.is ∙ ap (rest v) more
        ∙ ap (λ t. cond ((t && all_digits (drop (i + 1) w)) && ltb (decimal_value v (get_or w i 0 ∷ drop (i + 1) w)) (2 ^ 64)) (Some (decimal_value v (get_or w i 0 ∷ drop (i + 1) w))) None) e

    pub no_digit : digit (get_or w i 0) ≡ false → None ≡ number_of w
    no_digit e = sym (next_byte false e)

    -- a digit d, with which the value has more than 64 bits, or not
    module _ {d : ℕ} (e : digit (get_or w i 0) ≡ true) (k : d ≡ get_or w i 0 - 48) where
      pub no_room : 2 ^ 64 ≤ v * 10 + d → None ≡ number_of w
      no_room g = sym (next_byte true e ∙ too_large (v * 10 + (get_or w i 0 - 48)) (drop (i + 1) w) (omega arith))

      pub one_more : {n : ℕ} → n ≡ v * 10 + d → n < 2 ^ 64 → Begun n (i + 1)
      one_more {n} q g =
          let m : v * 10 + (get_or w i 0 - 48) ≡ n = omega arith in
          record { some = omega arith; small = g; is = next_byte true e ∙ ap (λ x. rest x (drop (i + 1) w)) m }

  pub whole : {v i : ℕ} → length w ≤ i → Begun v i → Some v ≡ number_of w
  whole {v} {i} h p =
      sym (p.is ∙ ap (rest v) (drop_of_length-le w {i = i} h) ∙ ap (λ t. cond t (Some v) None) (lt-ltb v (2 ^ 64) p.small))
