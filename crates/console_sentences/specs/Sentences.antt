-- DEFINITION: the sentence that says in words why something was turned down, as bytes. A refusal can have several causes; what stands at its place tells most of them apart.
use Rattle.std.specs.Prelude.{Bool, false, cond, ◌&&◌, List, [], ◌∷◌, ◌++◌, ℕ, eqb, leb, is_none, Option, Some, None}
use Prim.Native.Char.{Char, code}
use Prim.Native.String.{String}
use Rattle.refusals.specs.declared.Code.{Code}
use Rattle.refusals.specs.declared.Refusal.{Refusal}
use Rattle.refusals.specs.declared.Refusal.TheVariants.{Form, Size, Item, OtherAcceptance, Undeclared, Outside, Body, SecondEdge, NoEdge, Dimensions, SolverForm, Literal, NoStep, Differ, Short, Propositions}
use Rattle.refusals.specs.Refused.{code_of}
use Rattle.decimal.specs.Decimal.{decimal}
use Rattle.automaton.specs.Bytes.{bytes}
use Rattle.console_places.specs.declared.Place.{Place}

-- ---- patterns: `@` stands for the line of the place and `~` for its column, `#` and `$` for the refusal's first and second value

abbrev pub shown : Code → Place → ℕ → List ℕ
shown c p b =
    cond (eqb b (code "@")) (decimal p.line)
    (cond (eqb b (code "~")) (decimal p.column)
    (cond (eqb b (code "#")) (decimal c.first)
    (cond (eqb b (code "$")) (decimal c.second) (b ∷ []))))

abbrev pub filled : Code → Place → List ℕ → List ℕ
filled c p [] = []
filled c p (b ∷ s) = shown c p b ++ filled c p s

-- ---- what stands at the place of a refusal in HOA text, which is that of `console_places::of`

abbrev pub ends : Place → Bool
ends p = is_none p.byte

abbrev pub seen : (ℕ → Bool) → Option ℕ → Bool
seen test None = false
seen test (Some b) = test b

abbrev pub digit : Place → Bool
digit p = seen (λ b. leb (code "0") b && leb b (code "9")) p.byte

abbrev pub stands : Char → Place → Bool
stands c p = seen (λ b. eqb b (code c)) p.byte

-- ---- one line for each refusal; p is the place of its offset, where it has one

-- with offset 0, 3 and 4 are of an automaton that was handed over as a value
abbrev pub other_acceptance : String
other_acceptance = "the table's acceptance is not Inf of all its sets.\n"

abbrev pub outside : String
outside = "the value lies outside the automata that are allowed.\n"

-- 2 stands at the number of `States:`, `AP:` or `Acceptance:`, at a quoted name, and at the `!` or `(` that nests too deep. 3 stands at the item name that comes
-- again, at the second of two quoted names, and at `--BODY--`. 5 stands at a number, or at the text's end.
abbrev pub pattern : Refusal → Place → String
pattern (Form o) p =
    cond (ends p) "line @, column ~: the HOA text ends too soon.\n"
    (cond (digit p) "line @, column ~: a number that cannot stand here, or has a leading zero; the edges of a state all have labels, or none has and there is one for each letter.\n"
    (cond (stands "[" p) "line @, column ~: a label that cannot stand here; the edges of a state all have labels, or none has.\n"
    "line @, column ~: the HOA text cannot go on like this.\n"))
pattern (Size o) p =
    cond (eqb o 65536) "line @, column ~: the HOA text has more than 65,536 bytes.\n"
    (cond (digit p) "line @, column ~: a count outside its limits (1 to 16 states, at most 4 propositions, at most 4 sets).\n"
    (cond (stands "\"" p) "line @, column ~: a name that does not have 1 to 16 bytes.\n"
    "line @, column ~: the signs ! and ( nest more than 32 deep.\n"))
pattern (Item o) p =
    cond (eqb o 0) other_acceptance
    (cond (stands "-" p) "line @, column ~: States, Start or Acceptance is missing.\n"
    (cond (stands "\"" p) "line @, column ~: two propositions have one name.\n"
    "line @, column ~: an item is given twice.\n"))
pattern OtherAcceptance p = other_acceptance
pattern (Undeclared o) p =
    cond (eqb o 0) outside "line @, column ~: a state, proposition, mark or set that was not declared (numbers begin at 0).\n"
pattern Outside p = outside
pattern (Body o q) p = cond (ends p) "state $ has no body.\n" "line @, column ~: state $ has a second body.\n"
pattern (SecondEdge q l) p = "state # has a second edge for letter $.\n"
pattern (NoEdge q l) p = "state # has no edge for letter $.\n"
pattern (Dimensions n m) p = "asked for # states and $ sets; allowed are 1 to 8 states and 0 to 4 sets.\n"
pattern (SolverForm o) p = "line @, column ~: the solver's text cannot go on like this.\n"
pattern (Literal o) p = "line @, column ~: a literal past the last variable, or a variable given twice.\n"
pattern (NoStep q l) p = "no step is true for state # and letter $.\n"
pattern (Differ x y) p = "the tables differ on a word with a prefix of # and a loop of $ letters.\n"
pattern (Short needed given) p = "a buffer needs # places and has $.\n"
pattern (Propositions k j) p = "one automaton has # propositions, the other $.\n"

abbrev pub sentence : Refusal → Place → List ℕ
sentence x p = filled (code_of x) p (bytes (pattern x p))
