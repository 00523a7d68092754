-- DEFINITION: the numbers of the header, on all input. "The header is `p cnf V C`, C counted beforehand".
use Rattle.std.specs.Prelude.{◌≡◌, length, Result, Ok, Err}
use Rattle.std.proofs.Math.Option.{Option, none, some}
use Rattle.automaton.specs.declared.Automaton.{Automaton}
use Rattle.refusals.specs.declared.Code.{Code}
use Rattle.refusals.specs.declared.Refusal.{Refusal}
use Rattle.refusals.specs.Refused.{code_of}
use Rattle.automaton.specs.Value.{Valid}
use Rattle.clause_sizes.specs.declared.Target.{Target}
use Rattle.clause_sizes.specs.Targets.{Proper, last, file}
use Rattle.clause_sizes.specs.Sizes.{Refuses}
use Rattle.clause_header.specs.declared.Totals.{Totals}

-- V is the last variable, C the number of clauses of the file
abbrev pub HeaderTotals : Automaton → Target → Totals → Type 0
HeaderTotals a τ t = (t.variables ≡ last a τ) × (t.clauses ≡ length (file a τ))

-- "Returned (number, a, b)": what is returned, or none where nothing is turned down
abbrev pub returned : Result Totals Refusal → Option Code
returned (Ok t) = none
returned (Err f) = some (code_of f)

abbrev pub Headed : Automaton → Target → Result Totals Refusal → Type 0
Headed a τ (Ok t) = Valid a × Proper τ × HeaderTotals a τ t
Headed a τ (Err f) = Refuses a τ f (returned (Err f))
