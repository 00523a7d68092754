-- Contracts of the functions that read one kind of token.
use Rattle.std.specs.Prelude.{◌≡◌, ◌≢◌, false, List, ℕ, ◌<◌, length, get_or}
use Rattle.std.proofs.Math.Seq.{slice}
use Rattle.hoa_text.specs.Tokens.{blank, digit, value}
use Rattle.hoa_text.specs.RunOffsets.{Run}

pub record Digits (s : List ℕ) (i v e : ℕ) : Type 0 where
  pub run : Run digit s i e
  pub is : v ≡ value (slice i e s)

-- the byte b at i opens no number, no quoted text, no ANAME and no word of the body
pub record Other (s : List ℕ) (i b : ℕ) : Type 0 where
  pub inside : i < length s
  pub is : b ≡ get_or s i 0
  pub no_blank : blank b ≡ false
  pub no_digit : digit b ≡ false
  pub no_quote : b ≢ 34
  pub no_at : b ≢ 64
  pub no_dash : b ≢ 45
