-- EXAMPLES, by computation: marks on states and edges without labels, document 02's E1. All but the last three texts have two states, one proposition
-- and two sets; an offset counts from behind their `--BODY--`.
use Rattle.std.specs.Prelude.{◌≡◌, refl, List, [], ◌∷◌, ◌++◌, ℕ, ◌+◌, length, replicate}
use Prim.Native.String.{String}
use Rattle.meaning.specs.BitSet.{set_of}
use Rattle.automaton.specs.declared.Automaton.{Automaton}
use Rattle.refusals.specs.declared.Refusal.TheVariants.{Form, Undeclared, Body, NoEdge}
use Rattle.automaton.specs.Bytes.{bytes}
use Rattle.hoa_text.specs.Grammar.{Result, gives, refuses}
use Rattle.hoa_text.specs.Formulas.{deepest}
use Rattle.hoa_text.specs.Header.{item_read}
use Rattle.hoa_text.specs.Body.{body_read}
use Rattle.hoa_text.specs.Reading.{read}
use Rattle.hoa_text.specs.Examples.{one_state, both_for_ever}

abbrev head : List ℕ
head = bytes "HOA: v1 States: 2 Start: 0 AP: 1 \"a\" Acceptance: 2 Inf(0)&Inf(1) --BODY--"

abbrev body : String → Result Automaton
body s = read (head ++ bytes s)

abbrev behind : ℕ → ℕ
behind i = length head + i

-- the table of two states: the destinations and the marks of the first and of the second, letter by letter
abbrev table : List ℕ → List ℕ → List ℕ → List ℕ → Automaton
table d m e n = record {
  states = 2;
  start = 0;
  propositions = 1;
  sets = 2;
  acceptance = 8;
  lengths = 1 ∷ replicate 3 0;
  names = 97 ∷ replicate 63 0;
  destinations = d ++ (replicate 14 0 ++ (e ++ replicate 238 0));
  marks = m ++ (replicate 14 0 ++ (n ++ replicate 238 0));
}

-- ---- accepted

-- "joined with the edge's own marks", and none of them on the next state's
state_marks : body "State: 0 {1} [!0] 1 [0] 0 {0} State: 1 [t] 1 {0} --END--" ≡ gives (table (1 ∷ 0 ∷ []) (2 ∷ 3 ∷ []) (1 ∷ 1 ∷ []) (1 ∷ 1 ∷ []))
unfolding read item_read body_read deepest set_of
state_marks = refl

-- "lists them in letter order, 0 first"; the other state may have labels
listed : body "State: 0 1 {0} 0 State: 1 [0] 0 [!0] 1 --END--" ≡ gives (table (1 ∷ 0 ∷ []) (1 ∷ 0 ∷ []) (1 ∷ 0 ∷ []) (0 ∷ 0 ∷ []))
unfolding read item_read body_read deepest set_of
listed = refl

-- both, with the marks behind the quoted text, `{}`, a mark twice, and few blanks
both : body "State:1{}0 1{0}State: 0\"x\"{1 1}1{0}0--END--" ≡ gives (table (1 ∷ 0 ∷ []) (3 ∷ 2 ∷ []) (0 ∷ 1 ∷ []) (0 ∷ 1 ∷ []))
unfolding read item_read body_read deepest set_of
both = refl

-- ---- "One state may not mix both kinds"

-- the edge without a label comes second, and its destination is not judged
listed_second : body " State: 0 [0] 0 9" ≡ refuses (Form (behind 16))
unfolding read item_read body_read deepest set_of
listed_second = refl

-- a label that no letter satisfies is a label
listed_after_none : body " State: 0 [f] 0 0" ≡ refuses (Form (behind 16))
unfolding read item_read body_read deepest set_of
listed_after_none = refl

-- the edge with a label comes second, and its label is not judged
labelled_second : body " State: 0 1 [9] 9" ≡ refuses (Form (behind 12))
unfolding read item_read body_read deepest set_of
labelled_second = refl

-- also where the letters are all listed
labelled_last : body " State: 0 1 0 [f] 0" ≡ refuses (Form (behind 14))
unfolding read item_read body_read deepest set_of
labelled_last = refl

-- ---- too many and too few

-- "an unlabelled edge after the last letter", "before the destination is judged"
one_too_many : body " State: 0 1 0 9" ≡ refuses (Form (behind 14))
unfolding read item_read body_read deepest set_of
one_too_many = refl

-- "Too few give 7"
too_few : body " State: 0 1 0 State: 1 {0} 1 --END--" ≡ refuses (NoEdge 1 1)
unfolding read item_read body_read deepest set_of
too_few = refl

-- ---- what else is refused

listed_undeclared : body " State: 0 2" ≡ refuses (Undeclared (behind 10))
unfolding read item_read body_read deepest set_of
listed_undeclared = refl

listed_marks_undeclared : body " State: 0 1 {0 2}" ≡ refuses (Undeclared (behind 15))
unfolding read item_read body_read deepest set_of
listed_marks_undeclared = refl

state_marks_undeclared : body " State: 0 {0 2} 9" ≡ refuses (Undeclared (behind 13))
unfolding read item_read body_read deepest set_of
state_marks_undeclared = refl

-- 5 is judged at the number, before the marks
twice_before_marks : body " State: 0 {1} State: 0 {9}" ≡ refuses (Body (behind 21) 0)
unfolding read item_read body_read deepest set_of
twice_before_marks = refl

text_after_marks : body " State: 0 {1} \"x\"" ≡ refuses (Form (behind 14))
unfolding read item_read body_read deepest set_of
text_after_marks = refl

marks_twice : body " State: 0 {1} {0}" ≡ refuses (Form (behind 14))
unfolding read item_read body_read deepest set_of
marks_twice = refl

no_state : body " 0" ≡ refuses (Form (behind 1))
unfolding read item_read body_read deepest set_of
no_state = refl

leading_zero_lem : body " State: 0 00" ≡ refuses (Form (behind 10))
unfolding read item_read body_read deepest set_of
leading_zero_lem = refl

state_label : body " State: [0] 0" ≡ refuses (Form (behind 8))
unfolding read item_read body_read deepest set_of
state_label = refl

-- ---- other numbers of propositions

-- "in letter order": the automaton whose labels are `!0&!1`, `0&!1`, `!0&1`, `0&1`
four_letters : read (bytes "HOA: v1 States: 1 Start: 0 AP: 2 \"a\" \"b\" Acceptance: 2 Inf(0)&Inf(1) --BODY-- State: 0 0 0 {0} 0 {1} 0 {0 1} --END--") ≡ gives both_for_ever
unfolding read item_read body_read deepest set_of
four_letters = refl

-- without propositions there is one letter
one_letter : read (bytes "HOA: v1 States: 1 Start: 0 Acceptance: 1 Inf(0) --BODY-- State: 0 0 --END--") ≡ gives one_state
unfolding read item_read body_read deepest set_of
one_letter = refl

one_letter_left : read (bytes "HOA: v1 States: 1 Start: 0 Acceptance: 1 Inf(0) --BODY-- State: 0 0 0 --END--") ≡ refuses (Form 68)
unfolding read item_read body_read deepest set_of
one_letter_left = refl
