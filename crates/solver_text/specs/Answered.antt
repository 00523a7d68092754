-- A call by its rows, and the numbers that they return.
use Rattle.std.specs.Prelude.{◌≡◌}
use Rattle.std.proofs.Common.{ap, ◌∙◌}
use Rattle.acceptance.specs.Masks.{OwnSets}
use Rattle.automaton.specs.declared.Automaton.{Automaton}
use Rattle.refusals.specs.declared.Refusal.TheVariants.{Outside, Dimensions}
use Rattle.automaton.specs.Value.{Valid}
use Rattle.clause_sizes.specs.declared.Target.{Target}
use Rattle.clause_sizes.specs.Targets.{Dimensioned, Proper}
use Rattle.solver_text.specs.declared.Reader.{Reader}
use Rattle.solver_text.specs.declared.Reply.{Reply}
use Rattle.solver_text.specs.Calls.{InRange, returned, refusal, Called}

module _ {a : Automaton} {τ : Target} {r : Reader} {read e : Reply} where
  pub called : ((Valid a → ⊥) → e ≡ refusal Outside r) → ((InRange r → ⊥) → e ≡ refusal Outside r)
      → (Valid a → InRange r → (Dimensioned τ → ⊥) → e ≡ refusal (Dimensions τ.states τ.sets) r)
      → (Valid a → InRange r → Dimensioned τ → (OwnSets τ.acceptance τ.sets → ⊥) → e ≡ refusal Outside r)
      → (Valid a → InRange r → Proper τ → e ≡ read) → Called a τ r read e
  called automaton state sizes acceptance text = record {
    automaton = automaton;
    state = state;
    sizes = sizes;
    acceptance = acceptance;
    text = text;
    returns = record {
      automaton = λ k. ap (λ y. returned y.answer) (automaton k);
      state = λ k. ap (λ y. returned y.answer) (state k);
      sizes = λ v h k. ap (λ y. returned y.answer) (sizes v h k);
      acceptance = λ v h d k. ap (λ y. returned y.answer) (acceptance v h d k);
      form = λ v h d o k. ap (λ y. returned y.answer) (text v h d) ∙ ap returned k;
      literal = λ v h d o k. ap (λ y. returned y.answer) (text v h d) ∙ ap returned k;
      accepted = λ v h d k. ap (λ y. returned y.answer) (text v h d) ∙ ap returned k;
    };
  }

  -- a call that reads
  pub called_text : Valid a → InRange r → Proper τ → e ≡ read → Called a τ r read e
  called_text v h p q =
      called (λ k. absurd (k v)) (λ k. absurd (k h)) (λ _ _ k. absurd (k p.dimensioned)) (λ _ _ _ k. absurd (k p.sets_owned)) (λ _ _ _. q)
