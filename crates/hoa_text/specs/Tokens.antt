-- DEFINITIONS, 2 of 8: the tokens of a text. Sentences in quotes are document 01's, section "HOA as read"; a word in capitals is HOA v1's
-- name of a token.
use Rattle.std.specs.Prelude.{Bool, true, false, cond, ◌&&◌, ◌||◌, List, [], ◌∷◌, ℕ, zero, suc, ◌+◌, ◌-◌, ◌*◌, min, leb, eqb, length, get_or, drop}
use Rattle.std.proofs.Math.Option.{Option, none, some, map}
use Prim.Native.Char.{Char, code}
use Rattle.automaton.specs.Bytes.{bytes}
use Rattle.hoa_text.specs.Basics.{begins}

-- ---- bytes

abbrev pub between : Char → Char → ℕ → Bool
between a z b = leb (code a) b && leb b (code z)

-- "space, tab, LF and CR"
abbrev pub blank : ℕ → Bool
blank b = eqb b 32 || (eqb b 9 || (eqb b 10 || eqb b 13))

abbrev pub digit : ℕ → Bool
digit b = between "0" "9" b

-- IDENTIFIER: a letter or `_`, then letters, digits, `_` and `-`
abbrev pub opens_word : ℕ → Bool
opens_word b = between "A" "Z" b || (between "a" "z" b || eqb b (code "_"))

abbrev pub in_word : ℕ → Bool
in_word b = opens_word b || (digit b || eqb b (code "-"))

-- ---- the token at the head of a text

pub data Token : Type 0 where
  -- IDENTIFIER and BOOLEAN
  word : List ℕ → Token
  -- HEADERNAME, without its colon: an "item name"
  item : List ℕ → Token
  -- INT
  number : ℕ → Token
  -- STRING, without its quotes: a "quoted text"
  quoted : List ℕ → Token
  -- one of `! & | ( ) [ ] { }`, or of the words `--BODY--`, `--END--`, `--ABORT--`
  sign : List ℕ → Token
  -- a token that stands nowhere in the form read here: ANAME, and digits with a leading zero
  unread : Token

-- what a text begins with
pub data Piece : Type 0 where
  gap : Piece
  -- a token, and how many of its bytes follow the first
  token : Token → ℕ → Piece
  -- a quoted text that the text's end cuts off
  cut : Piece
  -- a byte that starts no token
  stray : Piece

-- "the longest first": the longest run of bytes for which p holds
abbrev pub run : (ℕ → Bool) → List ℕ → List ℕ
run p [] = []
run p (b ∷ r) =
    let more = b ∷ run p r in
    cond (p b) more []

-- INT. "A run of digits is one token." "Numbers have no leading zero."
abbrev pub leading_zero : List ℕ → Bool
leading_zero [] = false
leading_zero (b ∷ []) = false
leading_zero (b ∷ c ∷ w) = eqb b (code "0")

abbrev pub decimal_value : ℕ → List ℕ → ℕ
decimal_value v [] = v
decimal_value v (b ∷ w) = decimal_value (v * 10 + (b - code "0")) w

-- Numbers have any length, and saturate at 255: every limit lies below it (`Numbers.saturates`).
abbrev pub value : List ℕ → ℕ
value w = min (decimal_value 0 w) 255

abbrev pub numeral : List ℕ → Token
numeral w = cond (leading_zero w) unread (number (value w))

abbrev pub integer : ℕ → List ℕ → Piece
integer b w = token (numeral (b ∷ w)) (length w)

-- HEADERNAME: an IDENTIFIER with a `:` directly behind it. c is the byte behind
abbrev pub identifier : ℕ → List ℕ → ℕ → Piece
identifier b w c = cond (eqb c (code ":")) (token (item (b ∷ w)) (length w + 1)) (token (word (b ∷ w)) (length w))

-- STRING. "In a quoted text a backslash carries the next byte": the bytes in front of the quote that ends it, the first carried or not
abbrev pub in_quotes : Bool → List ℕ → Option (List ℕ)
in_quotes carried [] = none
in_quotes true (b ∷ r) = map (λ w. b ∷ w) (in_quotes false r)
in_quotes false (b ∷ r) =
    let more = map (λ w. b ∷ w) (in_quotes (eqb b (code "\\")) r) in
    cond (eqb b (code "\"")) (some []) more

abbrev pub string : Option (List ℕ) → Piece
string none = cut
string (some w) = token (quoted w) (length w + 1)

-- ANAME: `@`, then one or more of an IDENTIFIER's bytes
abbrev pub alias : List ℕ → Piece
alias [] = stray
alias (b ∷ w) = token unread (length (b ∷ w))

-- "The words that open and close the body are matched byte for byte"; so is every sign
abbrev pub signs : List (List ℕ)
signs =
    bytes "!" ∷ bytes "&" ∷ bytes "|" ∷ bytes "(" ∷ bytes ")" ∷ bytes "[" ∷ bytes "]" ∷ bytes "{" ∷ bytes "}"
    ∷ bytes "--BODY--" ∷ bytes "--END--" ∷ bytes "--ABORT--" ∷ []

abbrev pub sign_at : List (List ℕ) → List ℕ → Piece
sign_at [] s = stray
sign_at (w ∷ ws) s = cond (begins w s) (token (sign w) (length w - 1)) (sign_at ws s)

-- a text of the byte b and then r
abbrev pub piece : ℕ → List ℕ → Piece
piece b r =
    let tail = run in_word r in
    let digits = integer b (run digit r) in
    let named = identifier b tail (get_or r (length tail) 0) in
    let text = string (in_quotes false r) in
    let called = alias tail in
    let other = sign_at signs (b ∷ r) in
    cond (blank b) gap
    (cond (digit b) digits
    (cond (opens_word b) named
    (cond (eqb b (code "\"")) text
    (cond (eqb b (code "@")) called other))))

-- ---- the tokens of a text

-- "An offset is that of the offending token's first byte, or of a byte that starts no token."
pub data Stream : Type 0 where
  -- a token stands at an offset, and what follows it
  stands : ℕ → Token → Stream → Stream
  -- the text ends, at its length
  over : ℕ → Stream
  -- no token begins at the first offset, which is refused at the second: they differ where the text's end cuts a quoted text off
  broken : ℕ → ℕ → Stream

-- a piece at o of a text that ends at e; `go n` is what follows once n more bytes are passed
abbrev pub placed : Piece → ℕ → ℕ → (ℕ → Stream) → Stream
placed gap o e go = go 0
placed (token t n) o e go = stands o t (go n)
placed cut o e go = broken o e
placed stray o e go = broken o o

-- the tokens of the text that begins at o, once n bytes are passed
abbrev pub lex : List ℕ → ℕ → ℕ → Stream
lex [] n o = over o
lex (b ∷ r) (suc n) o = lex r n (o + 1)
lex (b ∷ r) zero o =
    let e = o + length (b ∷ r) in
    placed (piece b r) o e (λ n. lex r n (o + 1))

abbrev pub tokens : List ℕ → Stream
tokens s = lex s 0 0

-- those from the offset i on: what a reader has left that stands there
abbrev pub left : List ℕ → ℕ → Stream
left s i = lex (drop i s) 0 i
