-- The file, or its refusal.
use mathlib.Core.Path.{◌≡◌, refl, sym, ap, ap₂, ◌∙◌}
use Rattle.std.specs.Prelude.{Result, Ok, Err}
use mathlib.Core.Option.{Option}
use Prim.Native.Nat.{ℕ, ◌+◌}
use lib.ListN.{length, length-append}
use Rattle.automaton.specs.declared.Automaton.{Automaton}
use Rattle.refusals.specs.declared.Code.{Code}
use Rattle.refusals.specs.declared.Refusal.{Refusal}
use Rattle.automaton.specs.Value.{Valid}
use Rattle.clause_sizes.specs.declared.Target.{Target}
use Rattle.clause_sizes.specs.Targets.{Proper}
use Rattle.clause_sizes.specs.Sizes.{Refuses, outside, dimensions, past_sets}
use Rattle.clause_header.specs.declared.Totals.{Totals}
use Rattle.clause_header.specs.Header.{Headed}
use Rattle.clause_text.specs.Batches.{all_bytes}
use Rattle.console_report.specs.Lines.{header_line, refused_line}
use Rattle.console_clauses.specs.declared.Printout.{Printout}
use Rattle.console_clauses.specs.declared.Printout.TheVariants.{Refused}
use Rattle.console_print.specs.Handed.{Hands}
use Rattle.console_clauses.specs.Prints.{header_text, HandsFile}
use Rattle.console_clauses.specs.Batch.{HandsBehind}

module _ {a : Automaton} {τ : Target} where
  accepted_not : {f : Refusal} {c : Option Code} → Valid a → Proper τ → Refuses a τ f c → ⊥
  accepted_not v z (outside h) = h v
  accepted_not v z (dimensions w h) = h z.dimensioned
  accepted_not v z (past_sets w d h) = h z.sets_owned

  one_refusal : {f g : Refusal} {c d : Option Code} → Refuses a τ f c → Refuses a τ g d → f ≡ g
  one_refusal (outside h) (outside k) = refl
  one_refusal (outside h) (dimensions v k) = absurd (h v)
  one_refusal (outside h) (past_sets v d k) = refl
  one_refusal (dimensions v h) (outside k) = absurd (k v)
  one_refusal (dimensions v h) (dimensions w k) = refl
  one_refusal (dimensions v h) (past_sets w d k) = absurd (h d)
  one_refusal (past_sets v d h) (outside k) = refl
  one_refusal (past_sets v d h) (dimensions w k) = absurd (k d)
  one_refusal (past_sets v d h) (past_sets w e k) = refl

  -- the header, and what comes behind it
  pub file_handed : {t : Totals} {header : Result ℕ ℕ} {r : Printout} → Headed a τ (Ok t) → Hands (header_line t.variables t.clauses) header → HandsBehind a τ header r
      → HandsFile a τ r
  file_handed (v, z, k) g f =
      let first = g ∙ ap₂ (λ x y. length (header_line x y)) k.0 k.1 in
      record {
        file = λ _ _. record {
          calls = f.calls;
          called = f.called;
          bytes = f.bytes ∙ ap (λ l. l + length (all_bytes f.calls)) first ∙ sym (length-append (header_text a τ) (all_bytes f.calls));
          accepted = f.accepted;
          whole_is = f.whole_is;
          stops = λ e. f.stops (sym f.headed_is ∙ e);
        };
        refused = λ g j. absurd (accepted_not v z j);
      }

  pub refusal_handed : {f : Refusal} {r : Printout} → Headed a τ (Err f) → r ≡ Refused (length (refused_line f)) → HandsFile a τ r
  refusal_handed {f} k e = record { file = λ v z. absurd (accepted_not v z k); refused = λ g j. e ∙ ap (λ x. Refused (length (refused_line x))) (one_refusal k j) }
