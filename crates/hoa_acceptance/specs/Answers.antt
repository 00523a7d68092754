-- DEFINITIONS of what the answers of `acceptance` (`ReadsSets`) and of `behind_word` (`Past`) say.
use Rattle.std.specs.Prelude.{◌≡◌, Bool, true, false, List, ℕ, ◌≤◌, ◌<◌, length, Option, Some, None, Result, Ok, Err}
use Rattle.refusals.specs.declared.Refusal.{Refusal}
use Rattle.hoa_text.specs.Basics.{option, same}
use Rattle.hoa_text.specs.Tokens.{Token, left}
use Rattle.hoa_text.specs.Grammar.{word_of, next, rest, gives, refuses, Parsed}
use Rattle.hoa_text.specs.Header.{Items, with_acceptance, sets_item}
use Rattle.hoa_acceptance.specs.declared.SetsRead.{SetsRead}

-- ---- what stands behind `Acceptance:`

-- x gives m sets and the acceptance p beside the items h, and the text behind begins at e, which is past i
pub record SetsFrom (s : List ℕ) (i : ℕ) (h : Items) (x : Parsed Items) (m p e : ℕ) : Type 0 where
  pub is : x ≡ gives (with_acceptance h m p, left s e)
  pub from : i < e
  pub to : e ≤ length s

abbrev pub SetsAnswered : List ℕ → ℕ → Items → Parsed Items → Result SetsRead Refusal → Type 0
SetsAnswered s i h x (Ok r) = SetsFrom s i h x r.sets r.acceptance r.end
SetsAnswered s i h x (Err r) = x ≡ refuses r

-- from i on, whatever the items before
abbrev pub ReadsSets : List ℕ → ℕ → Result SetsRead Refusal → Type 0
ReadsSets s i r = (h : Items) → SetsAnswered s i h (sets_item h (left s i)) r

-- ---- a token that may stand next

-- the word of these bytes
abbrev pub is_word_of : List ℕ → Token → Bool
is_word_of w t = option (word_of t) false (same w)

-- a token that is as p says stands first from i on, and the text behind it begins at e
pub record TokenTo (p : Token → Bool) (s : List ℕ) (i e : ℕ) : Type 0 where
  pub present : next p (left s i) ≡ true
  pub behind : rest (left s i) ≡ left s e
  pub from : i < e
  pub to : e ≤ length s

-- r is the offset behind such a token, or none stands first from i on
abbrev pub Past : (Token → Bool) → List ℕ → ℕ → Option ℕ → Type 0
Past p s i (Some e) = TokenTo p s i e
Past p s i None = next p (left s i) ≡ false
