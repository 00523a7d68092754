-- DEFINITIONS, 8 of 8: the text that is written of an automaton. Sentences in quotes are document 01's, section "HOA as read", "Written"; those of the
-- condition are document 02's too.
use Rattle.std.specs.Prelude.{cond, List, [], ◌∷◌, ◌++◌, ℕ, zero, suc, ◌+◌, ◌-◌, ◌/◌, ◌%◌, ◌^◌, ltb, eqb}
use Prim.Native.String.{String}
use Rattle.meaning.specs.BitSet.{has}
use Rattle.meaning.specs.Counting.{each}
use Rattle.automaton.specs.declared.Automaton.{Automaton}
use Rattle.automaton.specs.Value.{letters, destination, mark_set, name}
use Rattle.automaton.specs.Bytes.{bytes}

-- a number below 100
abbrev pub decimal : ℕ → List ℕ
decimal n = cond (ltb n 10) ((48 + n) ∷ []) ((48 + n / 10) ∷ (48 + n % 10) ∷ [])

-- texts with the text w between them
abbrev pub followed : String → List (List ℕ) → List ℕ
followed w [] = []
followed w (u ∷ us) = bytes w ++ (u ++ followed w us)

abbrev pub separated : String → List (List ℕ) → List ℕ
separated w [] = []
separated w (u ∷ us) = u ++ followed w us

-- "Every line ends in LF"
abbrev pub line : List ℕ → List ℕ
line u = u ++ (10 ∷ [])

-- ---- "HOA, States, Start, AP (left out for k = 0), Acceptance, each on its line with one space between tokens"

abbrev pub hoa_line : List ℕ
hoa_line = line (bytes "HOA: v1")

abbrev pub states_line : Automaton → List ℕ
states_line a = line (bytes "States: " ++ decimal a.states)

abbrev pub start_line : Automaton → List ℕ
start_line a = line (bytes "Start: " ++ decimal a.start)

-- `AP: 2 "a" "b"`
abbrev pub quoted_name : Automaton → ℕ → List ℕ
quoted_name a i = bytes " \"" ++ (name a i ++ bytes "\"")

abbrev pub names_line : Automaton → List ℕ
names_line a = line (bytes "AP: " ++ (decimal a.propositions ++ each a.propositions (quoted_name a)))

abbrev pub names_part : Automaton → List ℕ
names_part a = cond (eqb a.propositions 0) [] (names_line a)

-- "but none inside the condition", `Acceptance: 2 Inf(0)&Inf(1)`; Inf of all sets, with 0 sets `0 t`
abbrev pub inf_of : ℕ → List ℕ
inf_of i = bytes "Inf(" ++ (decimal i ++ bytes ")")

abbrev pub condition_of : ℕ → List ℕ
condition_of zero = bytes "t"
condition_of (suc m) = separated "&" (each (suc m) (λ i. inf_of i ∷ []))

-- "by Inf or Fin": the set i, as the set of marks x has it or has it not
abbrev pub fin_of : ℕ → List ℕ
fin_of i = bytes "Fin(" ++ (decimal i ++ bytes ")")

abbrev pub set_text : ℕ → ℕ → List ℕ
set_text x i = cond (has x i) (inf_of i) (fin_of i)

-- "each naming every set, ascending, by Inf or Fin joined by &": the set of marks x, of m sets
abbrev pub marks_text : ℕ → ℕ → List ℕ
marks_text m x = separated "&" (each m (λ i. set_text x i ∷ []))

-- "the accepted sets of marks ascending": those below n that the acceptance a has
abbrev pub accepted : ℕ → ℕ → ℕ → List (List ℕ)
accepted m a n = each n (λ x. cond (has a x) (marks_text m x ∷ []) [])

-- "Written out, Inf of all sets keeps its form, otherwise all-true is t, all_false is f, else the accepted sets of marks ascending, joined by |". Bit x of
-- the acceptance a is the yes or no for the set of marks x, of m sets; Inf of all sets has a yes for all m alone
abbrev pub condition_text : ℕ → ℕ → List ℕ
condition_text m a =
    cond (eqb a (2 ^ (2 ^ m - 1))) (condition_of m)
    (cond (eqb a (2 ^ (2 ^ m) - 1)) (bytes "t")
    (cond (eqb a 0) (bytes "f") (separated "|" (accepted m a (2 ^ m)))))

abbrev pub acceptance_line : Automaton → List ℕ
acceptance_line a = line (bytes "Acceptance: " ++ (decimal a.sets ++ (bytes " " ++ condition_text a.sets a.acceptance)))

-- ---- "then per state ascending `State: q` and one line per letter ascending"

abbrev pub body_line : List ℕ
body_line = line (bytes "--BODY--")

abbrev pub state_line : ℕ → List ℕ
state_line q = line (bytes "State: " ++ decimal q)

-- "label in full as `[!0&1]` (k = 0: `[t]`)": the label of the letter l
abbrev pub literal_of : ℕ → ℕ → List ℕ
literal_of l i = cond (has l i) (decimal i) (bytes "!" ++ decimal i)

abbrev pub label_of : ℕ → ℕ → List ℕ
label_of zero l = bytes "t"
label_of (suc k) l = separated "&" (each (suc k) (λ i. literal_of l i ∷ []))

-- "if marked one space and the marks as `{0 2}`": those of m, with n sets
abbrev pub members : ℕ → ℕ → List (List ℕ)
members n m = each n (λ i. cond (has m i) (decimal i ∷ []) [])

abbrev pub marks_of : ℕ → ℕ → List ℕ
marks_of n m = cond (eqb m 0) [] (bytes " {" ++ (separated " " (members n m) ++ bytes "}"))

-- "one space, destination"
abbrev pub edge_line : Automaton → ℕ → ℕ → List ℕ
edge_line a q l =
    line (bytes "[" ++ (label_of a.propositions l ++ (bytes "] " ++ (decimal (destination a q l) ++ marks_of a.sets (mark_set a q l)))))

abbrev pub state_lines : Automaton → ℕ → List ℕ
state_lines a q = state_line q ++ each (letters a) (edge_line a q)

abbrev pub end_line : List ℕ
end_line = line (bytes "--END--")

-- ---- the text

unfoldable pub text : Automaton → List ℕ
text a =
    hoa_line ++ (states_line a ++ (start_line a ++ (names_part a ++ (acceptance_line a ++ (body_line ++ (each a.states (state_lines a) ++ end_line))))))
