-- Where the reference is valid and the target proper, the header counts the file.
use Rattle.std.specs.Prelude.{◌≡◌, ℕ, length, Result, Ok, Err}
use Rattle.std.proofs.Common.{ap₂}
use Rattle.std.proofs.Math.Option.{Option}
use Rattle.automaton.specs.declared.Automaton.{Automaton}
use Rattle.refusals.specs.declared.Refusal.{Refusal}
use Rattle.refusals.specs.declared.Code.{Code}
use Rattle.automaton.specs.Value.{Valid}
use Rattle.clause_sizes.specs.declared.Target.{Target}
use Rattle.clause_sizes.specs.Targets.{Proper, last, file}
use Rattle.clause_sizes.specs.Sizes.{Refuses, outside, dimensions, past_sets}
use Rattle.clause_header.specs.declared.Totals.{Totals}
use Rattle.clause_header.specs.Header.{Headed}

module _ {a : Automaton} {τ : Target} (v : Valid a) (d : Proper τ) where
  not_refused : {f : Refusal} {c : Option Code} → Refuses a τ f c → ⊥
  not_refused (outside w) = w v
  not_refused (dimensions w e) = e d.dimensioned
  not_refused (past_sets w e o) = o d.sets_owned

  pub header_is : (r : Result Totals Refusal) → Headed a τ r → r ≡ Ok (record { variables = last a τ; clauses = length (file a τ) })
  header_is (Ok t) (w, e, (p, q)) = ap₂ (λ (x y : ℕ). Ok (record { variables = x; clauses = y })) p q
  header_is (Err f) h = absurd (not_refused h)
