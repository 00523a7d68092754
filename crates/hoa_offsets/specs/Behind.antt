-- DEFINITION: what `behind` says of one sign.
use Rattle.std.specs.Prelude.{◌≡◌, Bool, false, List, [], ◌∷◌, ℕ, ◌-◌, ◌<◌, ◌≤◌, length, Option, Some, None}
use Rattle.hoa_text.specs.Basics.{option, same}
use Rattle.hoa_text.specs.Tokens.{sign, stands, left}
use Rattle.hoa_text.specs.Tokens as Hoa
use Rattle.hoa_text.specs.Grammar.{sign_of, next}

-- the sign of the byte b
abbrev pub is_sign_of : ℕ → Hoa.Token → Bool
is_sign_of b t = option (sign_of t) false (same (b ∷ []))

-- that sign stands first from i on, and the text behind it begins at e
pub record SignTo (s : List ℕ) (i b e : ℕ) : Type 0 where
  pub is : left s i ≡ stands (e - 1) (sign (b ∷ [])) (left s e)
  pub from : i < e
  pub to : e ≤ length s

-- r is the offset behind that sign, or the sign does not stand first from i on
abbrev pub Behind : List ℕ → ℕ → ℕ → Option ℕ → Type 0
Behind s i b (Some e) = SignTo s i b e
Behind s i b None = next (is_sign_of b) (left s i) ≡ false
