-- What the first byte of a text says of its first token.
use Rattle.std.specs.Prelude.{◌≡◌, refl, Bool, true, false, List, [], ◌∷◌, ℕ, suc, ◌<◌, eqb, length, get_or, drop}
use Rattle.std.proofs.Common.{sym, ap, ◌∙◌, true≢false, arith, eqb-true}
use Rattle.std.proofs.Math.Option.{Option, none, some}
use Rattle.std.proofs.Math.Decide.{dec_lt}
use Rattle.meaning.specs.TestLaws.{and_left, on_cond}
use Rattle.hoa_text.specs.Basics.{begins}
use Rattle.hoa_text.specs.Tokens.{blank, digit, opens_word, in_word, Token, word, item, number, quoted, sign, unread, Piece, gap, token, cut, stray, run, leading_zero, value, numeral, in_quotes, string, alias, signs, sign_at, piece, Stream, placed, left}
use Rattle.hoa_text.specs.Grammar.{next}
use Rattle.hoa_text.specs.Offsets.{left_over, left_piece}

-- a test that no token passes which begins with the byte b
pub record Excludes (b : ℕ) (p : Token → Bool) : Type 0 where
  pub words : digit b ≡ false → (w : List ℕ) → p (word (b ∷ w)) ≡ false
  pub items : (w : List ℕ) → p (item w) ≡ false
  pub numbers : digit b ≡ true → (v : ℕ) → p (number v) ≡ false
  pub texts : (w : List ℕ) → p (quoted w) ≡ false
  pub others : p unread ≡ false
  pub nothing : p (sign []) ≡ false
  pub signs : (w : List ℕ) → p (sign (b ∷ w)) ≡ false

-- the piece may be blank, or a token that passes the test
abbrev may : (Token → Bool) → Piece → Bool
may p gap = true
may p (token t n) = p t
may p cut = false
may p stray = false

placed_no : (p : Token → Bool) (x : Piece) → may p x ≡ false → (o e : ℕ) (go : ℕ → Stream) → next p (placed x o e go) ≡ false
placed_no p gap h o e go = absurd (true≢false h)
placed_no p (token t n) h o e go = h
placed_no p cut h o e go = refl
placed_no p stray h o e go = refl

module _ (b : ℕ) (p : Token → Bool) (n : Excludes b p) where
  no_numeral : (w : List ℕ) → digit b ≡ true → p (numeral w) ≡ false
  no_numeral w d = on_cond (λ t. p t ≡ false) (leading_zero w) unread (number (value w)) (λ e. n.others) (λ e. n.numbers d (value w))

  no_text : (x : Option (List ℕ)) → may p (string x) ≡ false
  no_text none = refl
  no_text (some w) = n.texts w

  no_alias : (w : List ℕ) → may p (alias w) ≡ false
  no_alias [] = refl
  no_alias (c ∷ w) = n.others

  no_signs : (ws : List (List ℕ)) (r : List ℕ) → may p (sign_at ws (b ∷ r)) ≡ false
  no_signs [] r = refl
  no_signs (w ∷ ws) r = on_cond (λ x. may p x ≡ false) (begins w (b ∷ r)) _ _ (λ e. head w e) (λ e. no_signs ws r)
    where
      head : (w : List ℕ) → begins w (b ∷ r) ≡ true → p (sign w) ≡ false
      head [] e = n.nothing
      head (a ∷ w) e = ap (λ c. p (sign (c ∷ w))) (eqb-true a b (and_left (eqb a b) (begins w r) e)) ∙ n.signs w

  no_piece : (r : List ℕ) → blank b ≡ false → may p (piece b r) ≡ false
  no_piece r h =
      let tail = run in_word r in
      let c = get_or r (length tail) 0 in
      let P : Piece → Type 0 = λ x. may p x ≡ false in
      on_cond P (blank b) _ _ (λ e. absurd (true≢false (sym e ∙ h)))
      (λ e. on_cond P (digit b) _ _ (λ d. no_numeral (b ∷ run digit r) d)
      (λ d. on_cond P (opens_word b) _ _ (λ w. on_cond P (eqb c 58) _ _ (λ e. n.items (b ∷ tail)) (λ e. n.words d tail))
      (λ w. on_cond P (eqb b 34) _ _ (λ q. no_text (in_quotes false r)) (λ q. on_cond P (eqb b 64) _ _ (λ a. no_alias tail) (λ a. no_signs signs r)))))

-- past the end of a text stands 0, which begins no token
pub excluded : (s : List ℕ) (i : ℕ) (p : Token → Bool) → blank (get_or s i 0) ≡ false → Excludes (get_or s i 0) p → next p (left s i) ≡ false
excluded s i p h n = go (dec_lt i (length s))
  where
    go : Dec (i < length s) → next p (left s i) ≡ false
    go (no l) = ap (next p) (left_over s i (omega arith))
    go (yes l) = ap (next p) (left_piece s i l _ refl) ∙ placed_no p (piece (get_or s i 0) (drop (suc i) s)) (no_piece (get_or s i 0) p n (drop (suc i) s) h) _ _ _
