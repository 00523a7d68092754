-- OVER A LIST OF CALLS each call is refused for its buffer only, and keeps the position and the buffer. One lemma for the clause step and for
-- the batches of lines.
use Rattle.std.specs.Prelude.{◌≡◌, List, [], ◌∷◌, ℕ, ◌≤◌, ◌<◌, length, Result, Ok, Err}
use Rattle.std.proofs.Common.{sym, ap, subst, ⊎_elim}
use mathlib.Core.List.Memᴰ
use Rattle.std.proofs.Math.Option.{Option}
use Rattle.automaton.specs.declared.Automaton.{Automaton}
use Rattle.refusals.specs.declared.Code.{Code}
use Rattle.refusals.specs.declared.Refusal.{Refusal}
use Rattle.automaton.specs.Value.{Valid}
use Rattle.clause_sizes.specs.declared.Target.{Target}
use Rattle.clause_sizes.specs.Targets.{Proper}
use Rattle.clause_step.specs.declared.Handed.{Handed}
use Rattle.clause_step.specs.Step.{TurnedDown, short, outside, dimensions, past_sets, position_after, last_position}
use Rattle.clause_step.specs.Calls.{CallOn, CallsOn, RefusedShort}

-- one call at a position in its range
pub turned_down_short : {a : Automaton} {τ : Target} {x needed given : ℕ} {f : Refusal} {c : Option Code} → Valid a → Proper τ → x ≤ last_position
    → TurnedDown needed given a τ x f c → given < needed
turned_down_short v i h (short l) = l
turned_down_short v i h (outside r l) = absurd (l (v, h))
turned_down_short v i h (dimensions r u l k) = absurd (k i.dimensioned)
turned_down_short v i h (past_sets r u l d k) = absurd (k i.sets_owned)

-- what is asked of one call: a refusal is one of the buffer, and any other answer leaves a position in its range
abbrev pub Stays : {A : Type 0} (needed x : ℕ) (d e : List A) → Result Handed Refusal → Type 0
Stays needed x d e (Ok h) = h.position ≤ last_position
Stays needed x d e (Err f) = (length d < needed) × (e ≡ d)

stays_le : {A : Type 0} (needed x : ℕ) (d e : List A) (r : Result Handed Refusal) → x ≤ last_position → Stays needed x d e r → position_after x r ≤ last_position
stays_le needed x d e (Ok r) h s = s
stays_le needed x d e (Err f) h s = h

module _ {A : Type 0} {needed : ℕ} {Says : (x : ℕ) (d e : List A) → Result Handed Refusal → Type 0}
    (one : (x : ℕ) (d e : List A) (r : Result Handed Refusal) → x ≤ last_position → Says x d e r → Stays needed x d e r) where
  pub refused_from : (x : ℕ) (cs : List (CallOn A)) → x ≤ last_position → CallsOn Says x cs → RefusedShort needed cs
  refused_from x [] h k c j f q = absurd (Memᴰ.not-nil j)
  refused_from x (b ∷ bs) h (e, s, k) c j f q =
      let here = one x b.before b.after b.result h s in
      ⊎_elim
      (λ g. subst (λ c. c.result ≡ Err f → (length c.before < needed) × (position_after c.from c.result ≡ c.from) × (c.after ≡ c.before)) (sym g)
      (λ q. let (l, w) : (length b.before < needed) × (b.after ≡ b.before) = subst (Stays needed x b.before b.after) q here in (l, ap (position_after b.from) q, w)) q)
      (λ j. refused_from (position_after x b.result) bs (stays_le needed x b.before b.after b.result h here) k c j f q)
      (Memᴰ.cases_cons j)
