-- EXAMPLES, by computation: acceptance conditions as document 02's E3 has them read and written.
use Rattle.std.specs.Prelude.{◌≡◌, refl, List, ◌++◌, ℕ, replicate}
use Rattle.refusals.specs.declared.Refusal.TheVariants.{Form, Size, Undeclared}
use Rattle.automaton.specs.Bytes.{bytes}
use Rattle.hoa_text.specs.Tokens.{over, tokens}
use Rattle.hoa_text.specs.Grammar.{gives, refuses, Parsed}
use Rattle.hoa_text.specs.Formulas.{Formula, proposition, top, bottom, negation, conjunction, disjunction, deepest, acceptance_formula}
use Rattle.hoa_text.specs.Written.{condition_text}

-- ---- read

-- with two sets
abbrev condition : List ℕ → Parsed Formula
condition s = acceptance_formula 2 (tokens s)

-- "Inf, Fin, &, |, t, f and brackets"
all_forms : condition (bytes "Fin(0)|Inf(1)&(t|f)")
    ≡ gives (disjunction (negation (proposition 0)) (conjunction (proposition 1) (disjunction top bottom)), over 19)
unfolding deepest
all_forms = refl

-- 1 for one "with !", at it
with_denial : condition (bytes "Inf(0)&!Inf(1)") ≡ refuses (Form 7)
unfolding deepest
with_denial = refl

-- 1 for "a malformed formula": a number alone, another word, no brackets, no set, brackets that stay open
number_alone : condition (bytes "t&0") ≡ refuses (Form 2)
unfolding deepest
number_alone = refl

other_word : condition (bytes "inf(0)") ≡ refuses (Form 0)
unfolding deepest
other_word = refl

no_brackets : condition (bytes "Inf 0") ≡ refuses (Form 4)
unfolding deepest
no_brackets = refl

no_set : condition (bytes "Fin(t)") ≡ refuses (Form 4)
unfolding deepest
no_set = refl

open_brackets : condition (bytes "Fin(1") ≡ refuses (Form 5)
unfolding deepest
open_brackets = refl

-- "an undeclared set 4", at its number, and before what follows it
undeclared_set : condition (bytes "Inf(2") ≡ refuses (Undeclared 4)
unfolding deepest
undeclared_set = refl

-- "the 32 limit applies"; a `!` opens nothing
nested_33 : condition (replicate 33 40 ++ bytes "t") ≡ refuses (Size 32)
unfolding deepest
nested_33 = refl

denial_33 : condition (replicate 32 40 ++ bytes "!t") ≡ refuses (Form 32)
unfolding deepest
denial_33 = refl

-- ---- written

-- "Inf of all sets keeps its form", with none too
inf_of_all : condition_text 3 128 ≡ bytes "Inf(0)&Inf(1)&Inf(2)"
inf_of_all = refl

inf_of_none : condition_text 0 1 ≡ bytes "t"
inf_of_none = refl

-- "otherwise all_true is t, all_false is f"
all_true : condition_text 3 255 ≡ bytes "t"
all_true = refl

all_false : condition_text 0 0 ≡ bytes "f"
all_false = refl

-- "else the accepted sets of marks ascending, joined by |, each naming every set": here the first alone, the second alone, and both
some_true : condition_text 2 14 ≡ bytes "Inf(0)&Fin(1)|Fin(0)&Inf(1)|Inf(0)&Inf(1)"
some_true = refl
