-- What a call is answered, by what was judged before it.
use mathlib.Core.Path.{◌≡◌, sym, ap, ◌∙◌, subst}
use Rattle.automaton.specs.declared.Automaton.{Automaton}
use Rattle.refusals.specs.declared.Refusal.{Refusal}
use Rattle.clause_sizes.specs.declared.Target.{Target}
use Rattle.clause_sizes.specs.declared.Sizes.{Sizes}
use Rattle.clause_sizes.specs.declared.Measurement.{Measurement}
use Rattle.std.specs.Prelude.{Ok, Err}
use Rattle.clause_sizes.specs.Numbers.{last_variable}
use Rattle.clause_sizes.specs.Sizes.{Sizing, Fitting, outside, dimensions, past_sets}
use Rattle.clause_sizes.specs.Limits.{sizes_fit, file_variables}
use Rattle.solver_text.specs.declared.Reader.{Reader}
use Rattle.solver_text.specs.declared.call.Variables.{Variables}
use Rattle.solver_text.specs.declared.Reply.{Reply}
use Rattle.solver_text.specs.Calls.{InRange, Called, refusal}
use Rattle.solver_text.specs.Answered.{called, called_text}
use Rattle.solver_text.specs.Objection.{state, call, Judged}

module _ (a : Automaton) (τ : Target) (r : Reader) where
  -- a state in its ranges, and what was measured
  pub sizing_fits : (m : Measurement) → Sizing a τ (Ok m) → Fitting m.sizes
  sizing_fits m (v, d, e, g) = subst Fitting (sym e) (sizes_fit v d)

  pub judged : InRange r → (m : Measurement) → Sizing a τ (Ok m) → {file : Variables} → (file.last ≡ last_variable m.sizes) × (file.kept ≡ m.sizes.marks) → Judged a τ r (Ok file)
  judged h m (v, d, e, g) (l, k) = (h, v, d, l ∙ ap last_variable e ∙ file_variables τ v, k ∙ ap (λ (z : Sizes). z.marks) e)

  pub called_read : {file : Variables} {read e : Reply} → Judged a τ r (Ok file) → e ≡ read → Called a τ r read e
  called_read (h, v, d, l, k) q = called_text v h d q

  pub called_refused : {f : Refusal} {read e : Reply} → Judged a τ r (Err f) → e ≡ refusal f r → Called a τ r read e
  called_refused (state k) q = called (λ v. q) (λ s. q) (λ v s z. absurd (k s)) (λ v s d o. q) (λ v s p. absurd (k s))
  called_refused (call h (outside k)) q = called (λ v. q) (λ s. q) (λ v s z. absurd (k v)) (λ v s d o. q) (λ v s p. absurd (k v))
  called_refused (call h (dimensions v k)) q =
      called (λ i. absurd (i v)) (λ s. absurd (s h)) (λ v s z. q) (λ v s d o. absurd (k d)) (λ v s p. absurd (k p.dimensioned))
  called_refused (call h (past_sets v d k)) q =
      called (λ i. absurd (i v)) (λ s. absurd (s h)) (λ v s z. absurd (z d)) (λ v s d o. q) (λ v s p. absurd (k p.sets_owned))
