-- What a call for a batch of lines answered, and what is handed over of it.
use mathlib.Core.Path.{◌≡◌, refl, sym, ap, ◌∙◌, subst}
use mathlib.Core.Logic.{inr}
use mathlib.Core.Bool.{true, false}
use Rattle.std.specs.Prelude.{Option, Some, None, Result, Ok, Err, IsOk, is_err}
use mathlib.Core.List.{List}
use Prim.Native.Nat.{ℕ, ◌≤◌}
use native.Mathlib.Omega.{arith}
use lib.ListN.{length, take, length-take}
use Rattle.automaton.specs.declared.Automaton.{Automaton}
use Rattle.refusals.specs.declared.Refusal.{Refusal}
use Rattle.automaton.specs.Value.{Valid}
use Rattle.clause_sizes.specs.declared.Target.{Target}
use Rattle.clause_sizes.specs.Targets.{Proper}
use Rattle.clause_step.specs.declared.Handed.{Handed}
use Rattle.clause_step.specs.Step.{last_position, position_after}
use Rattle.clause_step.specs.Range.{positions_le}
use Rattle.clause_step.specs.Refusals.{turned_down_short}
use Rattle.clause_text.specs.Answers.{BatchFound, BatchStepped}
use Rattle.clause_text.specs.Batches.{TextCall, bytes}
use Rattle.console_clauses.specs.Left.{fewer_left}
use Rattle.console_clauses.specs.Prints.{ended}
use Rattle.console_clauses.specs.Batch.{HandsCall, HandsMore}

not_some : (o : Option ℕ) → ((k : ℕ) → o ≡ Some k → ⊥) → o ≡ None
not_some (Some k) n = absurd (n k refl)
not_some None n = refl

module _ (a : Automaton) (τ : Target) (x : ℕ) (d e : List ℕ) (v : Valid a) (z : Proper τ) (i : x ≤ last_position) (size : 262144 ≡ length d) where
  -- there is room for a line, so that no call is turned down
  pub not_refused : (r : Result Handed Refusal) → BatchStepped a τ x d e r → IsOk r
  not_refused (Ok h) s = refl
  not_refused (Err f) (t, w) = absurd (omega (arith, turned_down_short v z i t, size))

  module _ {r : Result Handed Refusal} {h : Handed} (s : BatchStepped a τ x d e r) (is : r ≡ Ok h) where
    abbrev the_call : TextCall
    the_call = record { from = x; before = d; after = e; result = r }

    module _ {k : ℕ} (w : h.written ≡ Some k) where
      found : BatchFound a τ x d e (Some k) h.position
      found = subst (λ w. BatchFound a τ x d e w h.position) w (subst (BatchStepped a τ x d e) is s).1

      call_is : r ≡ Ok (record { written = Some k; position = h.position })
      call_is = is ∙ ap (λ (w : Option ℕ). Ok (record { written = w; position = h.position })) w

      -- the bytes that were written are handed over
      pub written : {count : ℕ} → count ≡ length (take k e) → HandsCall a τ x count false × (count ≤ 262144)
      written {count} told =
          let some = found in (
            record {
              call = the_call;
              from = refl;
              stepped = inr s;
              length_is = told ∙ ap (λ r. length (bytes r e)) (sym call_is);
              accepted = ap is_err is;
              says = ap ended call_is;
            },
            omega (arith, told, length-take k e, some.0.lines.text.room, size),
          )

      -- and there may be more
      pub written_more : {count : ℕ} → count ≡ length (take k e) → HandsMore a τ x count h.position
      unfolding written
      written_more told =
          let (call, most) = written told in
          record {
            of = call;
            most = most;
            position = ap (position_after x) (sym is);
            stays = found.0.lines.within last_position (positions_le v z) i;
            fewer = fewer_left a τ x d e k h.position found;
          }

    -- nothing was written, and there is no more
    pub ended_now : ((k : ℕ) → h.written ≡ Some k → ⊥) → HandsCall a τ x 0 true
    ended_now n =
        let w : h.written ≡ None = not_some h.written n in
        let call_is : r ≡ Ok (record { written = None; position = h.position }) = is ∙ ap (λ (w : Option ℕ). Ok (record { written = w; position = h.position })) w in
        record {
          call = the_call;
          from = refl;
          stepped = inr s;
          length_is = sym (ap (λ r. length (bytes r e)) call_is);
          accepted = ap is_err is;
          says = ap ended call_is;
        }
