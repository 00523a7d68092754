-- The table of the sets of marks on which two acceptances differ.
use Rattle.std.specs.Prelude.{◌≡◌, refl, Bool, true, false, cond, List, ℕ, ◌/◌, ◌%◌, ◌<◌, length, get_or}
use Rattle.std.proofs.Common.{sym, true≢false, arith}
use Rattle.std.specs.Bool.{beq}
use Rattle.meaning.specs.BitSet.{has}

-- 1 where two answers differ
abbrev pub unlike : Bool → Bool → ℕ
unlike true true = 0
unlike true false = 1
unlike false true = 1
unlike false false = 0

-- by one test whether they are equal
pub unlike_test : (x y : Bool) → unlike x y ≡ cond (beq x y) 0 1
unlike_test true true = refl
unlike_test true false = refl
unlike_test false true = refl
unlike_test false false = refl

pub unlike_zero : (x y : Bool) → unlike x y ≡ 0 → x ≡ y
unlike_zero true true e = refl
unlike_zero true false e = absurd (omega arith)
unlike_zero false true e = absurd (omega arith)
unlike_zero false false e = refl

pub zero_unlike : (x y : Bool) → x ≡ y → unlike x y ≡ 0
zero_unlike true true e = refl
zero_unlike true false e = absurd (true≢false e)
zero_unlike false true e = absurd (true≢false (sym e))
zero_unlike false false e = refl

-- the entry of two sets of marks: that of an automaton with the acceptance f times 16, and that of one with the acceptance g
pub record Judged (f g : ℕ) (hits : List ℕ) : Type 0 where
  pub size : length hits ≡ 256
  pub entries : (m : ℕ) → m < 256 → get_or hits m 0 ≡ unlike (has f (m / 16)) (has g (m % 16))
