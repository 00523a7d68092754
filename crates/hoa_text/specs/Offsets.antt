-- The tokens from an offset on, for a reader that goes by offsets: what stands there, and blanks. The kinds of tokens follow in
-- `RunOffsets` (numbers, words, item names), `QuotedOffsets` and `SignOffsets`.
use Rattle.std.specs.Prelude.{◌≡◌, ◌≢◌, true, List, [], ◌∷◌, ℕ, zero, suc, ◌+◌, ◌≤◌, ◌<◌, length, get_or, drop}
use Rattle.std.proofs.Common.{ap, ◌∙◌, arith, length-drop, drop_of_length-le, drop-cons, drop-drop}
use Rattle.std.proofs.Math.Decide.{dec_lt}
use Rattle.std.proofs.Math.ListN.{get_or-eq_default}
use Rattle.hoa_text.specs.Tokens.{blank, Token, Piece, gap, token, cut, stray, piece, stands, over, broken, placed, lex, left}

pub left_over : (s : List ℕ) (i : ℕ) → length s ≤ i → left s i ≡ over i
left_over s i h = ap (λ r. lex r 0 i) (drop_of_length-le s h)

-- past the end of a text stands 0, so any other byte stands inside
pub inside : (s : List ℕ) (i : ℕ) → get_or s i 0 ≢ 0 → i < length s
inside s i h = go (dec_lt i (length s))
  where
    go : Dec (i < length s) → i < length s
    go (yes e) = e
    go (no e) = absurd (h (get_or-eq_default s 0 (omega arith)))

pub byte_inside : (s : List ℕ) (i b : ℕ) → get_or s i 0 ≡ suc b → i < length s
byte_inside s i b h = inside s i (omega arith)

-- ---- pieces

pass : (r : List ℕ) (n o : ℕ) → n ≤ length r → lex r n o ≡ lex (drop n r) 0 (o + n)
pass [] zero o h = let e : o ≡ o + 0 = omega arith in ap over e
pass [] (suc n) o h = absurd (omega arith)
pass (b ∷ r) zero o h = let e : o ≡ o + 0 = omega arith in ap (lex (b ∷ r) 0) e
pass (b ∷ r) (suc n) o h = let e : o + 1 + n ≡ o + suc n = omega arith in pass r n (o + 1) (omega arith) ∙ ap (lex (drop n r) 0) e

-- the piece at i
abbrev pub piece_at : List ℕ → ℕ → Piece
piece_at s i = piece (get_or s i 0) (drop (suc i) s)

module _ (s : List ℕ) (i : ℕ) (h : i < length s) where
  pub left_piece : (x : Piece) → piece_at s i ≡ x → left s i ≡ placed x i (length s) (λ n. lex (drop (suc i) s) n (i + 1))
  left_piece x p =
      let b = get_or s i 0 in
      let r = drop (suc i) s in
      let e : i + length (b ∷ r) ≡ length s = omega (arith, length-drop (suc i) s) in
      ap (λ w. lex w 0 i) (drop-cons s i 0 h) ∙ ap (λ k. placed (piece b r) i k (λ n. lex r n (i + 1))) e
      ∙ ap (λ y. placed y i (length s) (λ n. lex r n (i + 1))) p

  -- a token that ends at e
  pub left_token : (e n : ℕ) (t : Token) → piece_at s i ≡ token t n → e ≡ suc i + n → e ≤ length s → left s i ≡ stands i t (left s e)
  left_token e n t p q l =
      let a : i + 1 + n ≡ e = omega arith in
      let b : suc i + n ≡ e = omega arith in
      left_piece (token t n) p
      ∙ ap (stands i t) (pass (drop (suc i) s) n (i + 1) (omega (arith, length-drop (suc i) s))
      ∙ ap (λ w. lex w 0 (i + 1 + n)) (drop-drop n (suc i) s ∙ ap (λ k. drop k s) b) ∙ ap (λ k. lex (drop e s) 0 k) a)

  pub left_stray : piece_at s i ≡ stray → left s i ≡ broken i i
  left_stray p = left_piece stray p

  pub left_cut : piece_at s i ≡ cut → left s i ≡ broken i (length s)
  left_cut p = left_piece cut p

  pub left_blank : blank (get_or s i 0) ≡ true → left s i ≡ left s (i + 1)
  left_blank e =
      let a : suc i ≡ i + 1 = omega arith in
      left_piece gap (rw e) ∙ ap (λ k. lex (drop k s) 0 (i + 1)) a
