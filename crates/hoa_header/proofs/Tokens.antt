-- Laws of an item name, and of words, numbers and quoted texts, that may stand next.
use mathlib.Core.Path.{◌≡◌, refl, ap, ◌∙◌}
use mathlib.Core.Bool.{true, false}
use mathlib.Core.List.{List}
use Prim.Native.Nat.{ℕ, ◌+◌}
use native.Mathlib.Omega.{arith}
use lib.Seq.{slice}
use Rattle.std.specs.Prelude.{Some, None}
use Rattle.hoa_text.specs.Basics.{same}
use Rattle.hoa_text.specs.Tokens.{word, item, number, quoted}
use Rattle.hoa_text.specs.Grammar.{next}
use Rattle.hoa_text.specs.Header.{plain}
use Rattle.hoa_tokens.specs.declared.Token.TheVariants.{Word, Item, Number, Quoted}
use Rattle.hoa_tokens.specs.Answers.{Reads}
use Rattle.hoa_acceptance.specs.Answers.{Past}
use Rattle.hoa_acceptance.proofs.Tokens.{past_token}
use Rattle.hoa_header.specs.Expected.{is_item_of}

-- ---- item names

module _ (w s : List ℕ) (i : ℕ) where
  pub item_stands : (o e : ℕ) → Reads s i (Item o e) → same w (slice o e s) ≡ true → Past (is_item_of w) s i (Some (e + 1))
  item_stands o e h k = past_token (is_item_of w) s i o (e + 1) (item (slice o e s)) h.is k (omega (arith, h.lies.from, h.lies.longer)) h.lies.to

  pub item_differs : (o e : ℕ) → Reads s i (Item o e) → same w (slice o e s) ≡ false → Past (is_item_of w) s i None
  item_differs o e h k = ap (next (is_item_of w)) h.is ∙ k

-- ---- words, numbers and quoted texts

module _ (s : List ℕ) (i : ℕ) where
  pub plain_word : (o e : ℕ) → Reads s i (Word o e) → Past plain s i (Some e)
  plain_word o e h = past_token plain s i o e (word (slice o e s)) h.is refl (omega (arith, h.lies.from, h.lies.longer)) h.lies.to

  pub plain_number : (o v e : ℕ) → Reads s i (Number o v e) → Past plain s i (Some e)
  plain_number o v e h = past_token plain s i o e (number v) h.is refl (omega (arith, h.lies.from, h.lies.longer)) h.lies.to

  pub plain_quoted : (o e : ℕ) → Reads s i (Quoted o e) → Past plain s i (Some (e + 1))
  plain_quoted o e h = past_token plain s i o (e + 1) (quoted (slice (o + 1) e s)) h.is refl (omega (arith, h.lies.from, h.lies.longer)) h.lies.to
