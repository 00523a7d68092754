-- DEFINITIONS, 3 of 8: what a reader of tokens looks at, what it gives or refuses, and how it repeats.
use Rattle.std.specs.Prelude.{Bool, false, cond, List, ℕ, zero, suc}
use Rattle.std.proofs.Math.Option.{Option, none, some}
use Prim.Native.String.{String}
use Rattle.refusals.specs.declared.Refusal.{Refusal}
use Rattle.refusals.specs.declared.Refusal.TheVariants.{Form}
use Rattle.automaton.specs.Bytes.{bytes}
use Rattle.hoa_text.specs.Basics.{option, same}
use Rattle.hoa_text.specs.Tokens.{Token, word, item, number, quoted, sign, unread, Stream, stands, over, broken}

-- ---- one token

abbrev pub word_of : Token → Option (List ℕ)
word_of (word w) = some w
word_of (item w) = none
word_of (number v) = none
word_of (quoted w) = none
word_of (sign w) = none
word_of unread = none

abbrev pub item_of : Token → Option (List ℕ)
item_of (word w) = none
item_of (item w) = some w
item_of (number v) = none
item_of (quoted w) = none
item_of (sign w) = none
item_of unread = none

abbrev pub number_of : Token → Option ℕ
number_of (word w) = none
number_of (item w) = none
number_of (number v) = some v
number_of (quoted w) = none
number_of (sign w) = none
number_of unread = none

abbrev pub quoted_of : Token → Option (List ℕ)
quoted_of (word w) = none
quoted_of (item w) = none
quoted_of (number v) = none
quoted_of (quoted w) = some w
quoted_of (sign w) = none
quoted_of unread = none

abbrev pub sign_of : Token → Option (List ℕ)
sign_of (word w) = none
sign_of (item w) = none
sign_of (number v) = none
sign_of (quoted w) = none
sign_of (sign w) = some w
sign_of unread = none

abbrev pub is_word : String → Token → Bool
is_word w t = option (word_of t) false (same (bytes w))

abbrev pub is_item : String → Token → Bool
is_item w t = option (item_of t) false (same (bytes w))

abbrev pub is_sign : String → Token → Bool
is_sign w t = option (sign_of t) false (same (bytes w))

-- ---- the next token

-- whether there is one that is as p says
abbrev pub next : (Token → Bool) → Stream → Bool
next p (stands o t s) = p t
next p (over o) = false
next p (broken q o) = false

-- what follows it
abbrev pub rest : Stream → Stream
rest (stands o t s) = s
rest (over o) = over o
rest (broken q o) = broken q o

-- the offset at which it, or the lack of one, is refused
abbrev pub at : Stream → ℕ
at (stands o t s) = o
at (over o) = o
at (broken q o) = o

-- what f makes of it
abbrev pub peek : {A : Type 0} → (Token → Option A) → Stream → Option A
peek f (stands o t s) = f t
peek f (over o) = none
peek f (broken q o) = none

-- ---- results

pub data Result (A : Type 0) : Type 0 where
  gives : A → Result A
  refuses : Refusal → Result A

-- a value, and the tokens that follow
abbrev pub Parsed : Type 0 → Type 0
Parsed A = Result (A × Stream)

-- reading left to right: the first refusal stays
abbrev pub then : {A B : Type 0} → Parsed A → (A → Stream → Result B) → Result B
then (gives x) k = k x.0 x.1
then (refuses r) k = refuses r

-- "1, offset, 0: a token that cannot continue the HOA form"; "a text that ends early, at its length"
abbrev pub due : {A : Type 0} → (Token → Option A) → Stream → Parsed A
due f s = option (peek f s) (refuses (Form (at s))) (λ a. gives (a, rest s))

abbrev pub expect : {B : Type 0} → (Token → Bool) → Stream → (Stream → Result B) → Result B
expect p s k =
    let r = k (rest s) in
    cond (next p s) r (refuses (Form (at s)))

-- ---- repetition

pub data Turn (A B : Type 0) : Type 0 where
  again : A → Stream → Turn A B
  done : B → Turn A B

abbrev pub turn : {A B : Type 0} → Result (Turn A B) → (A → Stream → Result B) → Result B
turn (gives (again a s)) k = k a s
turn (gives (done b)) k = gives b
turn (refuses r) k = refuses r

-- at most n turns
abbrev pub repeat_within : {A B : Type 0} → ℕ → (A → Stream → Result (Turn A B)) → A → Stream → Result B
repeat_within zero f a s = refuses (Form (at s))
repeat_within (suc n) f a s = turn (f a s) (λ b u. repeat_within n f b u)

-- the number of tokens
abbrev pub size : Stream → ℕ
size (stands o t s) = suc (size s)
size (over o) = zero
size (broken q o) = zero

-- Every turn takes a token, so the bound is never met: a repetition is one turn and then the repetition (`Repetition.repeat_turn`).
abbrev pub repeat : {A B : Type 0} → (A → Stream → Result (Turn A B)) → A → Stream → Result B
repeat f a s = repeat_within (suc (size s)) f a s

-- on to the next turn
abbrev pub onward : {A B : Type 0} → Parsed A → Result (Turn A B)
onward x = then x (λ a s. gives (again a s))
