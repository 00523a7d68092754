-- DEFINITIONS, 4 of 8: the text of a label, or of an acceptance condition, gives a formula, and a formula holds of a letter, or of a set of marks.
-- Sentences in quotes are document 01's; those of acceptance conditions, 02's, E3.
use Rattle.std.specs.Prelude.{Bool, true, false, cond, not, ◌&&◌, ◌||◌, ℕ, zero, suc, ltb}
use Prim.Native.String.{String}
use Rattle.meaning.specs.BitSet.{has}
use Rattle.refusals.specs.declared.Refusal.TheVariants.{Form, Size, Undeclared}
use Rattle.hoa_text.specs.Tokens.{Stream}
use Rattle.hoa_text.specs.Grammar.{number_of, is_word, is_sign, next, rest, at, Result, gives, refuses, Parsed, then, due, expect, Turn, again, done, repeat}

-- ---- formulas

-- "A label is built of numbers, t, f, !, & and |"; a condition "from Inf, Fin, &, |, t, f and brackets". Inf of set i is the proposition i, Fin its negation
pub data Formula : Type 0 where
  proposition : ℕ → Formula
  top : Formula
  bottom : Formula
  negation : Formula → Formula
  conjunction : Formula → Formula → Formula
  disjunction : Formula → Formula → Formula

-- "bit i of a letter is proposition i"; of a set of marks, set i
abbrev pub holds : Formula → ℕ → Bool
holds (proposition i) l = has l i
holds top l = true
holds bottom l = false
holds (negation f) l = not (holds f l)
holds (conjunction f g) l = holds f l && holds g l
holds (disjunction f g) l = holds f l || holds g l

-- ---- the text of a formula

-- what its atoms are: k propositions, or m sets
pub data Atoms : Type 0 where
  propositions : ℕ → Atoms
  sets : ℕ → Atoms

-- after f, the operator w and one more operand; or no more
abbrev pub operation : String → (Formula → Formula → Formula) → (Stream → Parsed Formula) → Formula → Stream → Result (Turn Formula (Formula × Stream))
operation w join operand f s =
    let more = then (operand (rest s)) (λ g u. gives (again (join f g) u)) in
    cond (next (is_sign w) s) more (gives (done (f, s)))

abbrev pub operands : String → (Formula → Formula → Formula) → (Stream → Parsed Formula) → Stream → Parsed Formula
operands w join operand s = then (operand s) (repeat (operation w join operand))

-- "!, & and |, binding in that order"
abbrev pub conjunctions : (Stream → Parsed Formula) → Stream → Parsed Formula
conjunctions operand s = operands "&" conjunction operand s

abbrev pub disjunctions : (Stream → Parsed Formula) → Stream → Parsed Formula
disjunctions operand s = operands "|" disjunction (conjunctions operand) s

-- behind what a `!` or a Fin denies
abbrev pub negated : Formula → Stream → Parsed Formula
negated f s = gives (negation f, s)

-- "an expression may again stand inside brackets; these are round": behind that expression, or behind the set of an Inf or a Fin
abbrev pub closed : Formula → Stream → Parsed Formula
closed f s = expect (is_sign ")") s λ u. gives (f, u)

-- 4: "a .. proposition .. that was not declared", "an undeclared set". The number i at o, of n that are declared
abbrev pub number_given : ℕ → ℕ → ℕ → Stream → Parsed Formula
number_given n o i s = cond (ltb i n) (gives (proposition i, s)) (refuses (Undeclared o))

abbrev pub declared : ℕ → Stream → Parsed Formula
declared n s = then (due number_of s) (number_given n (at s))

-- behind an Inf or a Fin: one of m sets, in brackets
abbrev pub parsed_set : ℕ → Stream → Parsed Formula
parsed_set m s = expect (is_sign "(") s λ u. then (declared m u) closed

-- "numbers"; "Inf, Fin", and 1 for "a malformed formula"
abbrev pub named : Atoms → Stream → Parsed Formula
named (propositions k) s = declared k s
named (sets m) s =
    let fin = then (parsed_set m (rest s)) negated in
    cond (next (is_word "Inf") s) (parsed_set m (rest s)) (cond (next (is_word "Fin") s) fin (refuses (Form (at s))))

-- "t, f"; r where neither stands
abbrev pub constant : Parsed Formula → Stream → Parsed Formula
constant r s = cond (next (is_word "t") s) (gives (top, rest s)) (cond (next (is_word "f") s) (gives (bottom, rest s)) r)

abbrev pub atom : Atoms → Stream → Parsed Formula
atom a s = constant (named a s) s

-- whether `!` is an operator: of labels it is; a condition "with !, is 1"
abbrev pub negates : Atoms → Bool
negates (propositions k) = true
negates (sets m) = false

-- "open ! and brackets together nest at most 32 deep", "the 32 limit applies": d more may open. 2: "nesting 33"
abbrev pub unary : ℕ → Atoms → Stream → Parsed Formula
unary zero a s = cond ((negates a && next (is_sign "!") s) || next (is_sign "(") s) (refuses (Size (at s))) (atom a s)
unary (suc d) a s =
    let denied = then (unary d a (rest s)) negated in
    let bracketed = then (disjunctions (unary d a) (rest s)) closed in
    cond (negates a && next (is_sign "!") s) denied (cond (next (is_sign "(") s) bracketed (atom a s))

unfoldable pub deepest : ℕ
deepest = 32

abbrev pub label : ℕ → Stream → Parsed Formula
label k s = disjunctions (unary deepest (propositions k)) s

-- "read from Inf, Fin, &, |, t, f and brackets"
abbrev pub acceptance_formula : ℕ → Stream → Parsed Formula
acceptance_formula m s = disjunctions (unary deepest (sets m)) s
