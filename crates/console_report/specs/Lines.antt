-- DEFINITION: the lines that the programs print beside HOA text and clauses, as bytes.
use Rattle.std.specs.Prelude.{List, [], ◌∷◌, ◌++◌, ℕ}
use Prim.Native.String.{String}
use Rattle.refusals.specs.declared.Refusal.{Refusal}
use Rattle.refusals.specs.Refused.{code_of}
use Rattle.decimal.specs.Decimal.{decimal}
use Rattle.automaton.specs.Bytes.{bytes}

-- numbers, each after one space (32), and a line feed (10)
abbrev pub row : List ℕ → List ℕ
row [] = 10 ∷ []
row (n ∷ ns) = 32 ∷ (decimal n ++ row ns)

-- a name, and numbers
abbrev pub numbers_line : String → List ℕ → List ℕ
numbers_line name ns = bytes name ++ row ns

-- `refused NUMBER A B`, with the number and the two values of document 01's table "What is turned down"
abbrev pub refused_line : Refusal → List ℕ
refused_line x = numbers_line "refused" ((code_of x).number ∷ (code_of x).first ∷ (code_of x).second ∷ [])

-- "The header is `p cnf V C`"
abbrev pub header_line : ℕ → ℕ → List ℕ
header_line variables clauses = numbers_line "p cnf" (variables ∷ clauses ∷ [])

-- the next question of the search: n, then m
abbrev pub ask_line : ℕ → ℕ → List ℕ
ask_line n m = numbers_line "ask" (n ∷ m ∷ [])

-- two automata differ: the lengths of a word's prefix and loop
abbrev pub differ_line : ℕ → ℕ → List ℕ
differ_line prefix loop = numbers_line "differ" (prefix ∷ loop ∷ [])

-- a lasso word, its letters as numbers
abbrev pub word_lines : List ℕ → List ℕ → List ℕ
word_lines prefix loop = numbers_line "prefix" prefix ++ numbers_line "loop" loop
