-- DEFINITIONS: what an answer of `next_token` says (`Reads`): the tokens that are left in the text, and where the answered one stands and ends. What
-- `first_byte` (`Skipped`) and `number_here` (`NumberHere`) say.
use Rattle.std.specs.Prelude.{◌≡◌, ◌≢◌, ◌⊎◌, Bool, true, false, List, [], ◌∷◌, ℕ, ◌+◌, ◌≤◌, ◌<◌, length, get_or, drop}
use Prim.Native.Char.{code}
use Rattle.std.proofs.Math.Seq.{slice}
use Rattle.automaton.specs.Bytes.{bytes}
use Rattle.hoa_text.specs.Basics.{begins}
use Rattle.hoa_text.specs.Tokens.{blank, digit, in_word, word, item, number, quoted, sign, unread, Stream, stands, over, broken, left}
use Rattle.hoa_tokens.specs.declared.Token.{Token}
use Rattle.hoa_tokens.specs.declared.Token.TheVariants.{Word, Item, Number, Quoted, Sign, Body, End, Abort, Unread, Over, Broken}

-- the tokens of the text s from the answered one on
abbrev pub stream : List ℕ → Token → Stream
stream s (Word o e) = stands o (word (slice o e s)) (left s e)
stream s (Item o e) = stands o (item (slice o e s)) (left s (e + 1))
stream s (Number o v e) = stands o (number v) (left s e)
stream s (Quoted o e) = stands o (quoted (slice (o + 1) e s)) (left s (e + 1))
stream s (Sign o b) = stands o (sign (b ∷ [])) (left s (o + 1))
stream s (Body o) = stands o (sign (bytes "--BODY--")) (left s (o + 8))
stream s (End o) = stands o (sign (bytes "--END--")) (left s (o + 7))
stream s (Abort o) = stands o (sign (bytes "--ABORT--")) (left s (o + 9))
stream s (Unread o e) = stands o unread (left s e)
stream s (Over o) = over o
stream s (Broken o r) = broken o r

-- ---- where a token stands, at or after i: its ends are exact, and no blank behind it belongs to it

-- from o up to e
pub record Within (s : List ℕ) (i o e : ℕ) : Type 0 where
  pub from : i ≤ o
  pub longer : o < e
  pub to : e ≤ length s

-- "Tokens are HOA v1's, the longest first": from o up to e all bytes are as p says, and that at e is not
pub record Longest (p : ℕ → Bool) (s : List ℕ) (i o e : ℕ) : Type 0 where
  pub from : i ≤ o
  pub longer : o < e
  pub to : e ≤ length s
  pub within : (j : ℕ) → o ≤ j → j < e → p (get_or s j 0) ≡ true
  pub ends : p (get_or s e 0) ≡ false

-- ANAME: an `@` at o, and then a word's bytes up to e, the longest run of them
pub record Alias (s : List ℕ) (i o e : ℕ) : Type 0 where
  pub from : i ≤ o
  pub opens : get_or s o 0 ≡ code "@"
  pub name : Longest in_word s (o + 1) (o + 1) e

-- from o to its last byte b at e, a colon or a quote
pub record Ends (b : ℕ) (s : List ℕ) (i o e : ℕ) : Type 0 where
  pub from : i ≤ o
  pub longer : o < e
  pub to : e + 1 ≤ length s
  pub last : get_or s e 0 ≡ b

-- the word w of the body from o up to e, "matched byte for byte"
pub record Spelled (w : List ℕ) (s : List ℕ) (i o e : ℕ) : Type 0 where
  pub from : i ≤ o
  pub longer : o < e
  pub to : e ≤ length s
  pub is : begins w (drop o s) ≡ true

abbrev pub Lies : List ℕ → ℕ → Token → Type 0
Lies s i (Word o e) = Longest in_word s i o e
Lies s i (Item o e) = Ends (code ":") s i o e
Lies s i (Number o v e) = Longest digit s i o e
Lies s i (Quoted o e) = Ends (code "\"") s i o e
Lies s i (Sign o b) = Within s i o (o + 1)
Lies s i (Body o) = Spelled (bytes "--BODY--") s i o (o + 8)
Lies s i (End o) = Spelled (bytes "--END--") s i o (o + 7)
Lies s i (Abort o) = Spelled (bytes "--ABORT--") s i o (o + 9)
-- digits with a leading zero, or an ANAME
Lies s i (Unread o e) = Longest digit s i o e ⊎ Alias s i o e
Lies s i (Over o) = i ≤ o
Lies s i (Broken o r) = i ≤ o

-- the tokens from i on are those that the answer t says
pub record Reads (s : List ℕ) (i : ℕ) (t : Token) : Type 0 where
  pub is : left s i ≡ stream s t
  pub lies : Lies s i t

-- the number v stands right at i and ends at e; where e is i, none stands there
pub record NumberHere (s : List ℕ) (i v e : ℕ) : Type 0 where
  pub is : e ≢ i → Reads s i (Number i v e)
  pub none : e ≡ i → (w f : ℕ) → ¬ Reads s i (Number i w f)

-- ---- blanks

-- blanks from i up to e, where none stands
pub record Skipped (s : List ℕ) (i e : ℕ) : Type 0 where
  pub from : i ≤ e
  pub is : left s i ≡ left s e
  pub ends : blank (get_or s e 0) ≡ false
