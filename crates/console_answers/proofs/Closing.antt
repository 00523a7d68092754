-- Where the reader takes no more, what is told is a refusal.
use mathlib.Core.Path.{◌≡◌, refl, ap, ◌∙◌}
use mathlib.Core.Bool.{true, false≢true}
use mathlib.Core.List.{List}
use Prim.Native.Nat.{ℕ, ◌≤◌}
use native.Mathlib.Decide.{dec_le}
use native.Mathlib.Omega.{arith}
use lib.ListN.{length}
use Rattle.automaton.specs.declared.Automaton.{Automaton}
use Rattle.refusals.specs.declared.Refusal.{Refusal}
use Rattle.refusals.specs.declared.Refusal.TheVariants.{SolverForm, Literal}
use Rattle.clause_sizes.specs.declared.Target.{Target}
use Rattle.clause_sizes.specs.Targets.{Proper, last, kept}
use Rattle.compare.specs.Compared.{prefix_room, loop_room}
use Rattle.solver_text.specs.declared.Reader.{Reader}
use Rattle.solver_scan.specs.declared.Place.{Place as Spot}
use Rattle.solver_scan.specs.declared.Place.TheVariants.{Start, Comment, AfterS, BeforeWord, Word, AfterWord, AfterToken, BeforeToken, AfterMinus, Digits, Ended, BadForm, BadLiteral}
use Rattle.solver_scan.specs.Scanning.{refused_at}
use Rattle.solver_text.specs.Machine.{answer_at, told}
use Rattle.std.specs.Prelude.{Result, Ok, Err}
use Rattle.decode.specs.declared.Decoded.{Decoded}
use Rattle.decode.specs.Answers.{Decodes}
use Rattle.console_answers.specs.SoFar.{Closed}
use Rattle.solver_agreement.specs.Staying.{refused_end}

-- the refusal at a refused place
refusal_at : (s : Spot) (at : ℕ) → refused_at s ≡ true → (f : Refusal) × (answer_at s at ≡ Err f)
unfolding answer_at refused_at
refusal_at Start at e = absurd (false≢true e)
refusal_at Comment at e = absurd (false≢true e)
refusal_at AfterS at e = absurd (false≢true e)
refusal_at BeforeWord at e = absurd (false≢true e)
refusal_at Word at e = absurd (false≢true e)
refusal_at AfterWord at e = absurd (false≢true e)
refusal_at AfterToken at e = absurd (false≢true e)
refusal_at BeforeToken at e = absurd (false≢true e)
refusal_at AfterMinus at e = absurd (false≢true e)
refusal_at Digits at e = absurd (false≢true e)
refusal_at Ended at e = absurd (false≢true e)
refusal_at BadForm at e = (SolverForm at, refl)
refusal_at BadLiteral at e = (Literal at, refl)

module _ {p p' l l' : List ℕ} {x : Result Decoded Refusal} {a : Automaton} {τ : Target} {r : Reader} (d : Decodes p p' l l' x a τ r) (c : Closed a τ r) where
  module _ (never : (f : Refusal) → x ≡ Err f → ⊥) where
    by_call : prefix_room ≤ length p → loop_room ≤ length l → ⊥
    by_call h g =
        never _ ((d.automaton h g (λ v.
        never _ ((d.state h g (λ i.
        never _ ((d.dimensions h g v i (λ s.
        never _ ((d.acceptance h g v i s (λ o.
        let z : Proper τ = record { dimensioned = s; sets_owned = o } in
        let (f, e) = refusal_at r.scan.place r.scan.at (c v z) in
        never f ((d.text (record { prefix_room_fits = h; loop_room_fits = g; valid = v; in_range = i; sizes = z }) f
        (ap (λ x. (told x).answer) (refused_end (last a τ) (kept a τ) r (c v z)) ∙ e)).0))).0))).0))).0))).0)

    by_room : Dec (prefix_room ≤ length p) → Dec (loop_room ≤ length l) → ⊥
    by_room (no h) g = never _ (d.short_prefix (omega arith)).0
    by_room (yes h) (no g) = never _ (d.short_loop h (omega arith)).0
    by_room (yes h) (yes g) = by_call h g

  pub closed_refusal : (f : Refusal) × (x ≡ Err f)
  closed_refusal = go x refl
    where
      go : (w : Result Decoded Refusal) → x ≡ w → (f : Refusal) × (x ≡ Err f)
      go (Ok y) e = absurd (by_room (λ f is. cc) (dec_le prefix_room (length p)) (dec_le loop_room (length l)))
      go (Err f) e = (f, e)
