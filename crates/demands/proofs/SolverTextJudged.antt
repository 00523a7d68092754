-- The reader of solver text is judged by its conditions, and whole texts by their definition.
use Rattle.std.specs.Prelude.{◌≡◌, refl, ◌⊎◌, true, List, [], ◌∷◌, ◌++◌, ℕ}
use Rattle.std.proofs.Common.{sym, ap, ◌∙◌}
use Rattle.std.proofs.Math.Logic.{inl, inr}
use Rattle.std.proofs.Math.Logic.Dec.{and as dec_and}
use Rattle.std.proofs.Math.Option.{none, some, some_inj}
use Rattle.acceptance.specs.Masks.{OwnSets}
use Rattle.automaton.specs.declared.Automaton.{Automaton}
use Rattle.refusals.specs.declared.Code.{Code}
use Rattle.refusals.specs.declared.Refusal.TheVariants.{Outside, Dimensions}
use Rattle.automaton.specs.Value.{Valid}
use Rattle.clause_sizes.specs.declared.Target.{Target}
use Rattle.clause_sizes.specs.Targets.{Dimensioned, Proper, last, kept}
use Rattle.solver_text.specs.declared.Reader.{Reader}
use Rattle.solver_text.specs.declared.Reply.{Reply}
use Rattle.solver_scan.specs.declared.Place.{Place}
use Rattle.solver_scan.specs.SolverText.{Outcome, gives, refused, fault, outcome}
use Rattle.solver_scan.specs.Scanning.{refused_at}
use Rattle.solver_text.specs.Machine.{told, answer_at, fresh}
use Rattle.solver_text.specs.Calls.{Called, Reads, Ends, InRange, joined, refusal, returned as solution-said}
use Rattle.solver_scan.specs.Cases.{by}
use Rattle.solver_agreement.specs.Staying.{accepted_place, at_both}
use Rattle.solver_agreement.specs.Pieces.{whole_text, Tells}
use Rattle.demands.specs.Judgement.{TurnedDown, Accepted}
use Rattle.demands.specs.Conditions.{to_begin, no_fault, JudgesReading}
use Rattle.demands.proofs.Decisions.{Decided, fault_decided, fault_is, some_none, judged, valid_decided, dimensioned_decided, own_sets_decided, in_range_decided}

-- ---- one call

module _ (a : Automaton) (τ : Target) (r : Reader) (read reply : Reply) (c : Called a τ r read reply) where
  decided : Decided (to_begin a τ r ++ (no_fault (solution-said read.answer) ∷ []))
  decided = (dec_and (valid_decided a) (in_range_decided r), λ v. (dimensioned_decided τ, λ d. (own_sets_decided τ, λ o. (fault_decided (solution-said read.answer), λ e. tt))))

  outside : ¬ (Valid a × InRange r) → reply ≡ refusal Outside r
  outside k = go (valid_decided a)
    where
      go : Dec (Valid a) → reply ≡ refusal Outside r
      go (yes v) = c.state (λ i. k (v, i))
      go (no v) = c.automaton v

  sizes : Valid a → InRange r → ¬ Dimensioned τ → reply ≡ refusal (Dimensions τ.states τ.sets) r
  sizes v i k = c.sizes v i k

  past_sets : Valid a → InRange r → Dimensioned τ → ¬ OwnSets τ.acceptance τ.sets → reply ≡ refusal Outside r
  past_sets v i d k = c.acceptance v i d k

  text : Valid a → InRange r → Dimensioned τ → OwnSets τ.acceptance τ.sets → reply ≡ read
  text v i d o = c.text v i (record { dimensioned = d; sets_owned = o })

  refuses : (k : Code) → TurnedDown (to_begin a τ r ++ (no_fault (solution-said read.answer) ∷ [])) k → (solution-said reply.answer ≡ some k) × Unit {0}
  refuses k (inl (h, e)) = (ap (λ x. solution-said x.answer) (outside h) ∙ ap some (sym e), tt)
  refuses k (inr (h, inl (d, e))) = (ap (λ x. solution-said x.answer) (sizes h.0 h.1 d) ∙ ap some (sym e), tt)
  refuses k (inr (h, inr (d, inl (o, e)))) = (ap (λ x. solution-said x.answer) (past_sets h.0 h.1 d o) ∙ ap some (sym e), tt)
  refuses k (inr (h, inr (d, inr (o, inl (f, e))))) = (ap (λ x. solution-said x.answer) (text h.0 h.1 d o) ∙ fault_is (solution-said read.answer) k f e, tt)
  refuses k (inr (h, inr (d, inr (o, inr (f, t))))) = absurd t

  accepts : Accepted (to_begin a τ r ++ (no_fault (solution-said read.answer) ∷ [])) → solution-said reply.answer ≡ none
  accepts (h, (d, (o, (e, t)))) = ap (λ x. solution-said x.answer) (text h.0 h.1 d o) ∙ e

  pub reading_judged : JudgesReading a τ r read reply
  reading_judged = record { judged = judged decided refuses accepts; kept = stays; moved = λ (h, (d, (o, t))). ap (λ x. x.reader) (text h.0 h.1 d o) }
    where
      stays : (k : Code) → TurnedDown (to_begin a τ r) k → reply.reader ≡ r
      stays k (inl (h, e)) = ap (λ x. x.reader) (outside h)
      stays k (inr (h, inl (d, e))) = ap (λ x. x.reader) (sizes h.0 h.1 d)
      stays k (inr (h, inr (d, inl (o, e)))) = ap (λ x. x.reader) (past_sets h.0 h.1 d o)
      stays k (inr (h, inr (d, inr (o, t)))) = absurd t

-- ---- what a text is refused with

module _ (r : Reader) (c : Code) (e : solution-said (told r).answer ≡ some c) where
  pub fault_place : refused_at r.scan.place ≡ true
  fault_place = by (refused_at r.scan.place) (λ h. h) (λ h. some_none (sym e ∙ ap solution-said (accepted_place r.scan.place r.scan.at h)))

  pub fault_number : (c.number ≡ 9) ⊎ (c.number ≡ 10)
  unfolding answer_at
  fault_number = at_both r fault_place P (λ g. inl (same g)) (λ g. inr (same g)) e
    where
      P : Place → Type 0
      P p = solution-said (answer_at p r.scan.at) ≡ some c → (c.number ≡ 9) ⊎ (c.number ≡ 10)

      same : {k : Code} → some k ≡ some c → c.number ≡ k.number
      same g = sym (ap (λ (k : Code). k.number) (some_inj.0 g))

-- ---- whole texts

pub whole_judged : (a : Automaton) (τ : Target) → Valid a → Proper τ → (us : List (List ℕ)) (q : Reader) (e : Reply) → Reads a τ fresh us q → Ends a τ q e
    → solution-said e.answer ≡ fault (outcome (last a τ) (kept a τ) (joined us))
whole_judged a τ v d us q e k c =
    go (outcome (last a τ) (kept a τ) (joined us)) refl
  where
    tells : Tells (kept a τ) (outcome (last a τ) (kept a τ) (joined us)) e
    tells = whole_text v d k c

    go : (x : Outcome) → outcome (last a τ) (kept a τ) (joined us) ≡ x → solution-said e.answer ≡ fault x
    go (gives s) g = ap solution-said (tells.accepted s g)
    go (refused f) g = ap solution-said (tells.refusal f g)
