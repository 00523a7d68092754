-- EXAMPLES, by computation: automata as texts, two of them of document 01's decks, and the readings of its doubtful places, R1 to R13.
use Rattle.std.specs.Prelude.{◌≡◌, refl, cond, List, ◌∷◌, ◌++◌, ℕ, ◌<◌, length, replicate}
use Rattle.std.proofs.Common.{ap}
use Rattle.std.proofs.lemmas.Bool.{lt-leb}
use Rattle.meaning.specs.BitSet.{set_of}
use Rattle.automaton.specs.declared.Automaton.{Automaton}
use Rattle.refusals.specs.declared.Refusal.TheVariants.{Form, Size, Item, Undeclared, Body, SecondEdge}
use Rattle.automaton.specs.Bytes.{bytes}
use Rattle.hoa_text.specs.Tokens.{tokens}
use Rattle.hoa_text.specs.Grammar.{gives, refuses}
use Rattle.hoa_text.specs.Formulas.{deepest}
use Rattle.hoa_text.specs.Header.{item_read}
use Rattle.hoa_text.specs.Body.{body_read}
use Rattle.hoa_text.specs.Reading.{reading, text_limit, read}
use Rattle.hoa_text.specs.Written.{label_of, marks_of, text}
use Rattle.hoa_text.specs.Examples.{one_state, both_for_ever}

-- ---- three automata

one_state_written : text one_state ≡ bytes "HOA: v1\nStates: 1\nStart: 0\nAcceptance: 1 Inf(0)\n--BODY--\nState: 0\n[t] 0\n--END--\n"
unfolding text
one_state_written = refl

-- items in any order, skipped items, a name of a state, nested formulas, a mark twice, `{}`, and blanks of any kind or none
both_head : List ℕ
both_head = bytes "HOA:v1\tname: \"GFa & GFb\"\nAP: 2 \"a\" \"b\" acc-name: generalized-Buchi 2\r\nAcceptance:2 Inf(0)&Inf(1) Start: 0 States: 1\n"

both_body : List ℕ
both_body = bytes "tool: \"x\" 1 --BODY--\nState: 0 \"x \\\" y\" [!0&!1]0{}[0&(!1|f)] 0 {0 0}\n[!(0|!1)] 0{1} [0&1&t]0 {1 0}--END--\n"

both_read : read (both_head ++ both_body) ≡ gives both_for_ever
unfolding read item_read body_read deepest set_of both_head both_body
both_read = refl

both_written : text both_for_ever
    ≡ bytes "HOA: v1\nStates: 1\nStart: 0\nAP: 2 \"a\" \"b\"\nAcceptance: 2 Inf(0)&Inf(1)\n"
    ++ bytes "--BODY--\nState: 0\n[!0&!1] 0\n[0&!1] 0 {0}\n[!0&1] 0 {1}\n[0&1] 0 {0 1}\n--END--\n"
unfolding text
both_written = refl

-- one state that meets the second of two sets, and Rabin's condition on them: of the four sets of marks, a yes for the second set alone
abbrev rabin : Automaton
rabin = record {
  states = 1;
  start = 0;
  propositions = 0;
  sets = 2;
  acceptance = 4;
  lengths = replicate 4 0;
  names = replicate 64 0;
  destinations = replicate 256 0;
  marks = 2 ∷ replicate 255 0;
}

rabin_read : read (bytes "HOA: v1 States: 1 Start: 0 Acceptance: 2 (Fin(0) & Inf(1)) --BODY-- State: 0 [t] 0 {1} --END--") ≡ gives rabin
unfolding read item_read body_read deepest set_of
rabin_read = refl

rabin_written : text rabin ≡ bytes "HOA: v1\nStates: 1\nStart: 0\nAcceptance: 2 Fin(0)&Inf(1)\n--BODY--\nState: 0\n[t] 0 {1}\n--END--\n"
unfolding text
rabin_written = refl

-- "`[!0&1]`", "`{0 2}`"
label_written : label_of 2 2 ≡ bytes "!0&1"
label_written = refl

marks_written : marks_of 3 5 ≡ bytes " {0 2}"
marks_written = refl

-- a text over the limit, whatever it holds
too_long : (s : List ℕ) → text_limit < length s → read s ≡ refuses (Size text_limit)
unfolding read
too_long s h = ap (λ b. cond b (reading (tokens s)) (refuses (Size text_limit))) (lt-leb (length s) text_limit h)

-- ---- readings

-- R1: a quoted text that the text's end cuts off: at the text's length
cut_off : read (bytes "HOA: v1 AP: 1 \"ab") ≡ refuses (Form 17)
unfolding read item_read body_read deepest set_of
cut_off = refl

-- R1: after `--END--`: at the byte
after_end : read (bytes "HOA: v1 States: 1 Start: 0 Acceptance: 0 t --BODY-- State: 0 [t] 0 --END-- \"") ≡ refuses (Form 75)
unfolding read item_read body_read deepest set_of
after_end = refl

-- R2: a `-` that begins no word
no_word : read (bytes "HOA: v1 States: 1 Start: 0 Acceptance: 0 t --BOD") ≡ refuses (Form 43)
unfolding read item_read body_read deepest set_of
no_word = refl

-- R3: a leading zero where a number is due
leading_zero_lem : read (bytes "HOA: v1 States: 02") ≡ refuses (Form 16)
unfolding read item_read body_read deepest set_of
leading_zero_lem = refl

-- R3: so for a set
leading_zero_set : read (bytes "HOA: v1 Acceptance: 2 Inf(0)&Inf(01)") ≡ refuses (Form 33)
unfolding read item_read body_read deepest set_of
leading_zero_set = refl

-- R4: a leading zero in a skipped item
leading_zero_skipped : read (bytes "HOA: v1 tool: 007") ≡ refuses (Form 14)
unfolding read item_read body_read deepest set_of
leading_zero_skipped = refl

-- R5: an undeclared start: at its number, after 3
undeclared_start : read (bytes "HOA: v1 States: 1 Start: 1 Acceptance: 0 t --BODY--") ≡ refuses (Undeclared 25)
unfolding read item_read body_read deepest set_of
undeclared_start = refl

-- R5: so 3 for a missing item goes first
missing_item : read (bytes "HOA: v1 States: 1 Start: 1 --BODY--") ≡ refuses (Item 27)
unfolding read item_read body_read deepest set_of
missing_item = refl

-- R6: a byte that a name may not have goes before the length: at the opening quote
name_byte_lem : read (bytes "HOA: v1 AP: 1 \"1234567890123456\t7\"") ≡ refuses (Form 14)
unfolding read item_read body_read deepest set_of
name_byte_lem = refl

-- R6: a name of 17 bytes
name_length_lem : read (bytes "HOA: v1 AP: 1 \"12345678901234567\"") ≡ refuses (Size 14)
unfolding read item_read body_read deepest set_of
name_length_lem = refl

-- R7: `--BODY--` where the count is due
count_due : read (bytes "HOA: v1 Acceptance: --BODY--") ≡ refuses (Form 20)
unfolding read item_read body_read deepest set_of
count_due = refl

-- R7: `--BODY--` where a formula is due
condition_due : read (bytes "HOA: v1 Acceptance: 2 --BODY--") ≡ refuses (Form 22)
unfolding read item_read body_read deepest set_of
condition_due = refl

-- R7: the text's end inside the condition
condition_ends : read (bytes "HOA: v1 Acceptance: 1 Inf(0") ≡ refuses (Form 27)
unfolding read item_read body_read deepest set_of
condition_ends = refl

-- a formula with `!`, at it
condition_denied : read (bytes "HOA: v1 Acceptance: 2 Fin(0)&!Inf(1)") ≡ refuses (Form 29)
unfolding read item_read body_read deepest set_of
condition_denied = refl

-- an undeclared set, at its number
condition_undeclared : read (bytes "HOA: v1 Acceptance: 2 Fin(0)&Inf(2)") ≡ refuses (Undeclared 33)
unfolding read item_read body_read deepest set_of
condition_undeclared = refl

-- R9: a token that cannot continue the formula, a comment
condition_followed : read (bytes "HOA: v1 Acceptance: 1 Inf(0) Inf(0)") ≡ refuses (Form 29)
unfolding read item_read body_read deepest set_of
condition_followed = refl

comment_behind : read (bytes "HOA: v1 Acceptance: 1 Inf(0) /* c */") ≡ refuses (Form 29)
unfolding read item_read body_read deepest set_of
comment_behind = refl

-- R11: a second `HOA:`
second_hoa : read (bytes "HOA: v1 HOA: v1") ≡ refuses (Form 8)
unfolding read item_read body_read deepest set_of
second_hoa = refl

-- R12: a label that no letter satisfies is judged, and adds nothing
empty_label : read (bytes "HOA: v1 States: 1 Start: 0 Acceptance: 0 t --BODY-- State: 0 [f] 0 [!t] 1") ≡ refuses (Undeclared 72)
unfolding read item_read body_read deepest set_of
empty_label = refl

-- R13: 6 before what follows the edge
second_edge_first : read (bytes "HOA: v1 States: 1 Start: 0 Acceptance: 0 t --BODY-- State: 0 [t] 0 [t] 0 /") ≡ refuses (SecondEdge 0 0)
unfolding read item_read body_read deepest set_of
second_edge_first = refl

-- R13: but after its marks
marks_first : read (bytes "HOA: v1 States: 1 Start: 0 Acceptance: 0 t --BODY-- State: 0 [t] 0 [t] 0 {0}") ≡ refuses (Undeclared 74)
unfolding read item_read body_read deepest set_of
marks_first = refl

-- numbers saturate
saturated : read (bytes "HOA: v1 States: 18446744073709551617") ≡ refuses (Size 16)
unfolding read item_read body_read deepest set_of
saturated = refl

-- nesting 33
nesting_33 : read (bytes "HOA: v1 States: 1 Start: 0 Acceptance: 0 t --BODY-- State: 0 [!(!(!(!(!(!(!(!(!(!(!(!(!(!(!(!(!t") ≡ refuses (Size 94)
unfolding read item_read body_read deepest set_of
nesting_33 = refl

-- a state's body twice, and a state without one
body_twice : read (bytes "HOA: v1 States: 2 Start: 0 Acceptance: 0 t --BODY-- State: 0 [t] 0 State: 0") ≡ refuses (Body 74 0)
unfolding read item_read body_read deepest set_of
body_twice = refl

body_missing : read (bytes "HOA: v1 States: 2 Start: 0 Acceptance: 0 t --BODY-- State: 0 [t] 0 --END-- ") ≡ refuses (Body 75 1)
unfolding read item_read body_read deepest set_of
body_missing = refl

-- States twice, two names alike
states_twice : read (bytes "HOA: v1 States: 2 States: 2") ≡ refuses (Item 18)
unfolding read item_read body_read deepest set_of
states_twice = refl

names_alike : read (bytes "HOA: v1 AP: 2 \"a\" \"a\"") ≡ refuses (Item 18)
unfolding read item_read body_read deepest set_of
names_alike = refl
