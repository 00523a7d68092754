-- DEFINITION: what the programs hold of a text or a word that was read into a lent buffer.
use Rattle.std.specs.Prelude.{◌≡◌, List, ℕ, take, Option, Some, None, MatchOption, MatchResult}
use Rattle.automaton.specs.declared.Automaton.{Automaton}
use Rattle.hoa_text.specs.Grammar.{Result, gives, refuses}
use Rattle.hoa_text.specs.Reading.{read}
use Rattle.console_numerals.specs.Numbers.{number_of}
use Rattle.console_input.specs.declared.Held.{Held}
use Rattle.console_input.specs.declared.Numbered.{Numbered}

-- the automaton that a text gives, or nothing
abbrev pub given : Result Automaton → Option Automaton
given (gives a) = Some a
given (refuses x) = None

-- what the text in the first bytes of the buffer gives; nothing only where the text could not be read
abbrev pub FromText : List ℕ → Held → Type 0
FromText buffer r = MatchResult r.got (λ k. r.given ≡ given (read (take k buffer))) (λ k. r.given ≡ None)

-- the number that the word in its first bytes spells; none where no word could be read
abbrev pub FromWord : List ℕ → Numbered → Type 0
FromWord buffer r = MatchOption r.got (r.number ≡ None) (λ k. r.number ≡ number_of (take k buffer))
