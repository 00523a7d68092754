-- DEFINITION: the text of a clause, as bytes. "each line is literals and a closing 0", in the usual DIMACS form.
use Rattle.std.specs.Prelude.{List, [], ◌∷◌, ◌++◌, ℕ, ◌+◌, ℤ, pos, negsuc}
use Rattle.decimal.specs.Decimal.{decimal}

-- the variable, after a minus (45) where the literal is its negative
abbrev pub literal_text : ℤ → List ℕ
literal_text (pos k) = decimal k
literal_text (negsuc k) = 45 ∷ decimal (k + 1)

-- each literal with one space (32) after it
abbrev pub spaced_text : List ℤ → List ℕ
spaced_text [] = []
spaced_text (x ∷ c) = literal_text x ++ (32 ∷ spaced_text c)

-- and then 0 (48) and a line feed (10)
abbrev pub line_text : List ℤ → List ℕ
line_text [] = 48 ∷ 10 ∷ []
line_text (x ∷ c) = literal_text x ++ (32 ∷ line_text c)

-- the lines of clauses, one after another
abbrev pub lines_text : List (List ℤ) → List ℕ
lines_text [] = []
lines_text (c ∷ cs) = line_text c ++ lines_text cs
