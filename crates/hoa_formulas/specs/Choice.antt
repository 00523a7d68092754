-- What the choice of a formula's next token by its first byte says.
use Rattle.std.specs.Prelude.{◌≡◌, ◌≢◌, ◌⊎◌, true, false, List, ℕ, get_or}
use Rattle.hoa_text.specs.Tokens.{digit}
use Rattle.hoa_tokens.specs.Answers.{Skipped}
use Rattle.hoa_formulas.specs.declared.tokens.FormulaToken.{FormulaToken}
use Rattle.hoa_formulas.specs.declared.tokens.FormulaToken.TheVariants.{Not, And, Or, Open, Close, Constant, Number, Name, Other}

abbrev pub offset_of : FormulaToken → ℕ
offset_of (Not o) = o
offset_of (And o) = o
offset_of (Or o) = o
offset_of (Open o) = o
offset_of (Close o) = o
offset_of (Constant o) = o
offset_of (Number o) = o
offset_of (Name o) = o
offset_of (Other o) = o

-- a byte that opens no token of a formula
pub record OpensNone (b : ℕ) : Type 0 where
  pub no_not : b ≢ 33
  pub no_and : b ≢ 38
  pub no_or : b ≢ 124
  pub no_open : b ≢ 40
  pub no_close : b ≢ 41
  pub no_true : b ≢ 116
  pub no_false : b ≢ 102
  pub no_inf : b ≢ 73
  pub no_fin : b ≢ 70
  pub no_digit : digit b ≡ false

-- the byte that chooses it
abbrev pub Opens : ℕ → FormulaToken → Type 0
Opens b (Not o) = b ≡ 33
Opens b (And o) = b ≡ 38
Opens b (Or o) = b ≡ 124
Opens b (Open o) = b ≡ 40
Opens b (Close o) = b ≡ 41
Opens b (Constant o) = (b ≡ 116) ⊎ (b ≡ 102)
Opens b (Number o) = digit b ≡ true
Opens b (Name o) = (b ≡ 73) ⊎ (b ≡ 70)
Opens b (Other o) = OpensNone b

-- the first byte from i on that is no blank chooses x
pub record Chosen (s : List ℕ) (i : ℕ) (x : FormulaToken) : Type 0 where
  pub skipped : Skipped s i (offset_of x)
  pub opens : Opens (get_or s (offset_of x) 0) x
