-- A number that is due and does not stand there.
use mathlib.Core.Path.{◌≡◌, refl, sym, ap, ◌∙◌}
use mathlib.Core.List.{List}
use mathlib.Core.Option.{none}
use Prim.Native.Nat.{ℕ}
use Rattle.refusals.specs.declared.Refusal.TheVariants.{Form}
use Rattle.hoa_text.specs.Basics.{option}
use Rattle.hoa_text.specs.Tokens.{Stream, left}
use Rattle.hoa_text.specs.Grammar.{number_of, rest, at, peek, gives, refuses, due}
use Rattle.hoa_tokens.specs.declared.Token.{Token}
use Rattle.hoa_tokens.specs.declared.Token.TheVariants.{Word, Item, Number, Quoted, Sign, Body, End, Abort, Unread, Over, Broken}
use Rattle.hoa_tokens.specs.Answers.{stream, Reads}

-- the next token is no number, from a match that has taken each number
pub number_absent : (s : List ℕ) (i : ℕ) (t : Token) → Reads s i t → ((o v e : ℕ) → t ≡ Number o v e → ⊥) → peek number_of (left s i) ≡ none
number_absent s i t h n = ap (peek number_of) h.is ∙ go t n
  where
    go : (t : Token) → ((o v e : ℕ) → t ≡ Number o v e → ⊥) → peek number_of (stream s t) ≡ none
    go (Word o e) n = refl
    go (Item o e) n = refl
    go (Number o v e) n = absurd (n o v e refl)
    go (Quoted o e) n = refl
    go (Sign o b) n = refl
    go (Body o) n = refl
    go (End o) n = refl
    go (Abort o) n = refl
    go (Unread o e) n = refl
    go (Over o) n = refl
    go (Broken o r) n = refl

-- and one is due
pub number_due : (u : Stream) (o : ℕ) → peek number_of u ≡ none → o ≡ at u → due number_of u ≡ refuses (Form o)
number_due u o e q = ap (λ x. option x (refuses (Form (at u))) (λ a. gives (a, rest u))) e ∙ ap (λ o. refuses (Form o)) (sym q)
