-- The answers of `line`, from those of the clause step.
use mathlib.Core.Path.{◌≡◌, refl, subst}
use mathlib.Core.List.{List}
use mathlib.Core.Option as maybe
use Rattle.std.specs.Prelude.{Option, Some, None, Ok}
use Prim.Native.Nat.{ℕ, ◌≤◌}
use native.Mathlib.Omega.{arith}
use lib.IntN.{ℤ, pos}
use lib.ListN.{length, take, replicate}
use Rattle.automaton.specs.declared.Automaton.{Automaton}
use Rattle.refusals.specs.declared.Code.{Code}
use Rattle.refusals.specs.declared.Refusal.{Refusal}
use Rattle.decimal.specs.Writing.{wrote_length, wrote_front}
use Rattle.clause_sizes.specs.declared.Target.{Target}
use Rattle.clause_step.specs.declared.Handed.{Handed}
use Rattle.clause_step.specs.Step.{TurnedDown, short, outside, dimensions, past_sets, Accepted, StepFound, Stepped}
use Rattle.clause_words.specs.Text.{line_text}
use Rattle.clause_words.specs.Written.{LineIfRoom}
use Rattle.clause_line.specs.Line.{LineFound, LineStepped}
use Rattle.clause_line.specs.LineLength.{step_line_le}

module _ (a : Automaton) (τ : Target) (x : ℕ) (d : List ℕ) (room : 80 ≤ length d) where
  -- the step's buffer sufficed, and so does that of the line
  pub turned_down : {f : Refusal} {c : maybe.Option Code} → TurnedDown 8 8 a τ x f c → TurnedDown 80 (length d) a τ x f c
  turned_down (short l) = absurd (omega arith)
  turned_down (outside r l) = outside room l
  turned_down (dimensions r v l i) = dimensions room v l i
  turned_down (past_sets r v l i o) = past_sets room v l i o

  module _ (e : List ℤ) (h : Handed) (s : Stepped a τ x (replicate 8 (pos 0)) e (Ok h)) where
    accepted : Accepted 80 (length d) a τ x
    accepted = let (k, f) = s in record { room = room; valid = k.valid; in_range = k.in_range; proper = k.proper }

    -- no clause was handed out
    pub line_none : ((k : ℕ) → h.written ≡ Some k → ⊥) → LineStepped a τ x d d (Ok h)
    line_none t = (accepted, go h.written t s.1)
      where
        go : (w : Option ℕ) → ((k : ℕ) → w ≡ Some k → ⊥) → StepFound a τ x (replicate 8 (pos 0)) e w h.position → LineFound a τ x d d w h.position
        go (Some k) t f = absurd (t k refl)
        go None t (f, w) = (f, refl)

    -- a clause was, and stands at the start of the step's buffer
    module _ {k : ℕ} (q : h.written ≡ Some k) where
      found : StepFound a τ x (replicate 8 (pos 0)) e (Some k) h.position
      found = subst (λ w. StepFound a τ x (replicate 8 (pos 0)) e w h.position) q s.1

      pub clause_room_lem : k ≤ length e
      clause_room_lem = let (c, f, w) = found in omega (arith, w.room, wrote_length w)

      pub line_written : {g : List ℕ} {r : ℕ} → LineIfRoom d 0 (take k e) g r → LineStepped a τ x d g (Ok (record { written = Some r; position = h.position }))
      line_written {g} {r} l =
          let (c, f, w) = found in
          let short : length (line_text c) ≤ 80 = step_line_le accepted.valid accepted.proper x f in
          (accepted, (c, f, ((subst (λ t. LineIfRoom d 0 t g r) (wrote_front w) l).line (omega (arith, w.next, w.room))).roomy (omega (arith, short, room))))
