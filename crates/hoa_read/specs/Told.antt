-- DEFINITION of what a reading tells (`told`): the automaton that is given, or the refusal; and document 01's number and values.
use Rattle.std.specs.Prelude.{Result as Reading, Ok, Err}
use Rattle.std.proofs.Math.Option.{Option, none, some}
use Rattle.automaton.specs.declared.Automaton.{Automaton}
use Rattle.refusals.specs.declared.Refusal.{Refusal}
use Rattle.refusals.specs.declared.Code.{Code}
use Rattle.refusals.specs.Refused.{code_of}
use Rattle.hoa_text.specs.Grammar.{Result, gives, refuses}

abbrev pub told : Result Automaton → Reading Automaton Refusal
told (gives a) = Ok a
told (refuses f) = Err f

-- "Returned (number, a, b)": what an answer returns, or none where nothing is turned down
abbrev pub returned : Reading Automaton Refusal → Option Code
returned (Ok a) = none
returned (Err f) = some (code_of f)

-- and what the definition turns a text down with
abbrev pub fault : Result Automaton → Option Code
fault (gives a) = none
fault (refuses f) = some (code_of f)
