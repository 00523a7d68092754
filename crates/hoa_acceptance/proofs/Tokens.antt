-- Laws of a token that may stand next.
use mathlib.Core.Path.{◌≡◌, ap, ◌∙◌}
use mathlib.Core.Bool.{Bool, true, false}
use mathlib.Core.List.{List}
use Prim.Native.Nat.{ℕ, ◌≤◌, ◌<◌}
use native.Mathlib.Omega.{arith}
use lib.ListN.{length}
use lib.Seq.{slice}
use Rattle.std.specs.Prelude.{Some, None}
use Rattle.hoa_text.specs.Basics.{same}
use Rattle.hoa_text.specs.Tokens.{word, Stream, stands, over, broken, left}
use Rattle.hoa_text.specs.Tokens as Hoa
use Rattle.hoa_text.specs.Grammar.{next, rest}
use Rattle.hoa_tokens.specs.declared.Token.TheVariants.{Word}
use Rattle.hoa_tokens.specs.Answers.{Reads}
use Rattle.hoa_acceptance.specs.Answers.{Past, is_word_of}

-- ---- which token stands next

pub past_token : (p : Hoa.Token → Bool) (s : List ℕ) (i o e : ℕ) (t : Hoa.Token) → left s i ≡ stands o t (left s e) → p t ≡ true → i < e → e ≤ length s → Past p s i (Some e)
past_token p s i o e t h k l m = record { present = ap (next p) h ∙ k; behind = ap rest h; from = l; to = m }

-- ---- words

module _ (w s : List ℕ) (i : ℕ) where
  pub word_stands : (o e : ℕ) → Reads s i (Word o e) → same w (slice o e s) ≡ true → Past (is_word_of w) s i (Some e)
  word_stands o e h k = past_token (is_word_of w) s i o e (word (slice o e s)) h.is k (omega (arith, h.lies.from, h.lies.longer)) h.lies.to

  pub word_differs : (o e : ℕ) → Reads s i (Word o e) → same w (slice o e s) ≡ false → Past (is_word_of w) s i None
  word_differs o e h k = ap (next (is_word_of w)) h.is ∙ k
