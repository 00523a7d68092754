-- What every function that is handed a reference and a target knows after `measure`.
use Rattle.std.specs.Prelude.{◌≡◌, refl, Result, Ok, Err}
use Rattle.std.proofs.Common.{sym, subst}
use Rattle.automaton.specs.declared.Automaton.{Automaton}
use Rattle.refusals.specs.declared.Refusal.{Refusal}
use Rattle.automaton.specs.Value.{Valid}
use Rattle.clause_sizes.specs.declared.Target.{Target}
use Rattle.clause_sizes.specs.declared.Sizes.{Sizes}
use Rattle.clause_sizes.specs.declared.Measurement.{Measurement}
use Rattle.clause_sizes.specs.Targets.{Proper, last}
use Rattle.clause_sizes.specs.Sizes.{Refuses, Sizing, sizes_of, target_of, returned}

-- z are the sizes of a file for the reference a
pub record Measured (a : Automaton) (z : Sizes) : Type 0 where
  pub valid : Valid a
  pub proper : Proper (target_of z)
  pub sized : z ≡ sizes_of a (target_of z)

-- what the answer of `measure` says, by its case
pub sizing_of : {a : Automaton} {τ : Target} {s : Result Measurement Refusal} {y : Measurement} → Sizing a τ s → s ≡ Ok y
    → Valid a × Proper τ × (y.sizes ≡ sizes_of a τ) × (y.last ≡ last a τ)
sizing_of {a} {τ} h e = subst (Sizing a τ) e h

pub sizing_refused : {a : Automaton} {τ : Target} {s : Result Measurement Refusal} {f : Refusal} → Sizing a τ s → s ≡ Err f → Refuses a τ f (returned (Err f))
sizing_refused {a} {τ} h e = subst (Sizing a τ) e h

pub measured_of : {a : Automaton} {τ : Target} {z : Sizes} → Valid a → Proper τ → z ≡ sizes_of a τ → Measured a z
measured_of {a} v i e = subst (Measured a) (sym e) (record { valid = v; proper = i; sized = refl })
