-- The header, the clause step, the clause line and the batch of lines are judged by their conditions.
use Rattle.std.specs.Prelude.{◌≡◌, refl, Result, Ok, Err, List, ℕ, ℤ, length}
use Rattle.std.proofs.Common.{inl, inr, arith}
use Rattle.std.proofs.Math.Option.{Option, none}
use Rattle.automaton.specs.declared.Automaton.{Automaton}
use Rattle.refusals.specs.declared.Code.{Code}
use Rattle.refusals.specs.declared.Refusal.{Refusal}
use Rattle.clause_sizes.specs.declared.Target.{Target}
use Rattle.clause_sizes.specs.Sizes as sizes
use Rattle.clause_sizes.specs.Sizes.{Refuses}
use Rattle.clause_indices.specs.Indices.{clause_room}
use Rattle.clause_header.specs.declared.Totals.{Totals}
use Rattle.clause_header.specs.Header.{Headed, returned as header-said}
use Rattle.clause_step.specs.declared.Handed.{Handed}
use Rattle.clause_step.specs.Step as calls
use Rattle.clause_step.specs.Step.{line_room, Stepped, position_after, returned as step-said}
use Rattle.clause_line.specs.Line.{LineStepped}
use Rattle.clause_text.specs.Answers.{BatchStepped}
use Rattle.demands.specs.Judgement.{Judged}
use Rattle.demands.specs.Conditions.{to_count, to_hand_out}
use Rattle.demands.proofs.Decisions.{judged_refused, judged_accepted}

-- ---- the header

pub header_judged : (a : Automaton) (τ : Target) (answer : Result Totals Refusal) → Headed a τ answer → Judged (to_count a τ) (header-said answer) (Unit {0})
header_judged a τ (Ok t) (v, d, s) = judged_accepted (v, (d.dimensioned, (d.sets_owned, tt))) refl
header_judged a τ (Err f) t = turned t
  where
    turned : {f : Refusal} {said : Option Code} → Refuses a τ f said → Judged (to_count a τ) said (Unit {0})
    turned (sizes.outside v) = judged_refused (inl (v, refl)) refl tt
    turned (sizes.dimensions v d) = judged_refused (inr (v, inl (d, refl))) refl tt
    turned (sizes.past_sets v d o) = judged_refused (inr (v, inr (d, inl (o, refl)))) refl tt

-- ---- clauses and lines

module _ {needed given : ℕ} {a : Automaton} {τ : Target} {x : ℕ} where
  turned : {kept : Type 0} {f : Refusal} {said : Option Code} → calls.TurnedDown needed given a τ x f said → kept → Judged (to_hand_out needed given a τ x) said kept
  turned (calls.short l) = judged_refused (inl (λ h. omega arith, refl)) refl
  turned (calls.outside r v) = judged_refused (inr (r, inl (v, refl))) refl
  turned (calls.dimensions r v p d) = judged_refused (inr (r, inr ((v, p), inl (d, refl)))) refl
  turned (calls.past_sets r v p d o) = judged_refused (inr (r, inr ((v, p), inr (d, inl (o, refl))))) refl

  handed : {kept : Type 0} {said : Option Code} → calls.Accepted needed given a τ x → said ≡ none → Judged (to_hand_out needed given a τ x) said kept
  handed t = judged_accepted (t.room, ((t.valid, t.in_range), (t.proper.dimensioned, (t.proper.sets_owned, tt))))

module _ (a : Automaton) (τ : Target) (x : ℕ) where
  pub step_judged : (d e : List ℤ) (r : Result Handed Refusal) → Stepped a τ x d e r
      → Judged (to_hand_out clause_room (length d) a τ x) (step-said r) ((position_after x r ≡ x) × (e ≡ d))
  step_judged d e (Ok h) (t, s) = handed t refl
  step_judged d e (Err f) (t, k) = turned t (refl, k)

  pub line_judged : (d e : List ℕ) (r : Result Handed Refusal) → LineStepped a τ x d e r
      → Judged (to_hand_out line_room (length d) a τ x) (step-said r) ((position_after x r ≡ x) × (e ≡ d))
  line_judged d e (Ok h) (t, s) = handed t refl
  line_judged d e (Err f) (t, k) = turned t (refl, k)

  pub lines_judged : (d e : List ℕ) (r : Result Handed Refusal) → BatchStepped a τ x d e r
      → Judged (to_hand_out line_room (length d) a τ x) (step-said r) ((position_after x r ≡ x) × (e ≡ d))
  lines_judged d e (Ok h) (t, s) = handed t refl
  lines_judged d e (Err f) (t, k) = turned t (refl, k)
