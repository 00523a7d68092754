-- DEFINITION: the number and the two values of document 01's table "What is turned down", for each refusal.
use Rattle.std.specs.Prelude.{ℕ}
use Rattle.refusals.specs.declared.Code.{Code}
use Rattle.refusals.specs.declared.Refusal.{Refusal}
use Rattle.refusals.specs.declared.Refusal.TheVariants.{Form, Size, Item, OtherAcceptance, Undeclared, Outside, Body, SecondEdge, NoEdge, Dimensions, SolverForm, Literal, NoStep, Differ, Short, Propositions}

abbrev pub row : ℕ → ℕ → ℕ → Code
row number first second = record { number = number; first = first; second = second }

abbrev pub code_of : Refusal → Code
code_of (Form offset) = row 1 offset 0
code_of (Size offset) = row 2 offset 0
code_of (Item offset) = row 3 offset 0
code_of OtherAcceptance = row 3 0 0
code_of (Undeclared offset) = row 4 offset 0
code_of Outside = row 4 0 0
code_of (Body offset state) = row 5 offset state
code_of (SecondEdge state letter) = row 6 state letter
code_of (NoEdge state letter) = row 7 state letter
code_of (Dimensions n m) = row 8 n m
code_of (SolverForm offset) = row 9 offset 0
code_of (Literal offset) = row 10 offset 0
code_of (NoStep state letter) = row 11 state letter
code_of (Differ prefix loop) = row 12 prefix loop
code_of (Short needed given) = row 13 needed given
code_of (Propositions first second) = row 14 first second
