-- One batch of lines, the batches so far, and the lines behind the header.
use Rattle.std.specs.Prelude.{◌≡◌, refl, Bool, true, false, ◌||◌, List, [], ◌∷◌, ℕ, ◌+◌, ◌≤◌, ◌<◌, length, Result, Ok, is_ok, is_err}
use Rattle.std.proofs.Common.{sym, ap, ◌∙◌, subst, true≢false, arith, length-append}
use Rattle.automaton.specs.declared.Automaton.{Automaton}
use Rattle.clause_sizes.specs.declared.Target.{Target}
use Rattle.clause_step.specs.Step.{fresh_position, last_position, position_after}
use Rattle.clause_text.specs.Batches.{TextCall, TextCalls, TextStepped, bytes, all_bytes}
use Rattle.console_print.specs.Handed.{handed}
use Rattle.console_clauses.specs.declared.Batch.{Batch}
use Rattle.console_clauses.specs.declared.Batch.TheVariants.{More, Ended, Failed}
use Rattle.console_clauses.specs.declared.Printout.{Printout}
use Rattle.console_clauses.specs.Left.{left}
use Rattle.console_clauses.specs.Prints.{ended, some_call, bytes_of, whole, headed}

module _ (a : Automaton) (τ : Target) where
  -- a call at the position x that is not turned down: it wrote so many bytes, and they were handed over; and whether it said "ended"
  pub record HandsCall (x count : ℕ) (said : Bool) : Type 0 where
    pub call : TextCall
    pub from : call.from ≡ x
    pub stepped : TextStepped a τ x call.before call.after call.result
    pub length_is : count ≡ length (bytes call.result call.after)
    pub accepted : is_err call.result ≡ false
    pub says : ended call.result ≡ said

  -- where there may be more, the position after it is y
  pub record HandsMore (x count y : ℕ) : Type 0 where
    pub of : HandsCall x count false
    pub most : count ≤ 262144
    pub position : y ≡ position_after x of.call.result
    pub stays : y ≤ last_position
    pub fewer : left a τ y < left a τ x

  abbrev pub HandsBatch : (x : ℕ) → Batch → Type 0
  HandsBatch x (More count y) = HandsMore x count y
  HandsBatch x Ended = HandsCall x 0 true
  HandsBatch x (Failed count) = HandsCall x count false × (count ≤ 262144)

  -- the lines behind the header, or nothing where the output did not take it
  pub record HandsBehind (header : Result ℕ ℕ) (r : Printout) : Type 0 where
    pub calls : List TextCall
    pub called : TextCalls a τ fresh_position calls
    pub bytes : bytes_of r ≡ handed header + length (all_bytes calls)
    pub accepted : some_call is_err calls ≡ false
    pub whole_is : whole r ≡ some_call ended calls
    pub headed_is : headed r ≡ is_ok header
    pub stops : is_ok header ≡ false → calls ≡ []

  -- all calls, where ks follow those after which `count` bytes were handed over, k of them the header's
  pub record Joined (k count : ℕ) (ks : List TextCall) : Type 0 where
    pub calls : List TextCall
    pub called : TextCalls a τ fresh_position calls
    pub bytes_are : k + length (all_bytes calls) ≡ count + length (all_bytes ks)
    pub accepted : some_call is_err calls ≡ some_call is_err ks
    pub says : some_call ended calls ≡ some_call ended ks

  -- the calls so far have led to the position x, and `count` bytes are handed over, k of them the header's; none said "ended"
  abbrev pub Begun : (k x count : ℕ) → Type 0
  Begun k x count = (ks : List TextCall) → TextCalls a τ x ks → Joined k count ks

  pub begun : (k : ℕ) → Begun k fresh_position k
  begun k ks c = record { calls = ks; called = c; bytes_are = refl; accepted = refl; says = refl }

  module _ {k x count : ℕ} (b : Begun k x count) where
    pub begun_more : {more y : ℕ} → HandsMore x more y → Begun k y (count + more)
    begun_more h ks next =
        let c = h.of.call in
        let j : Joined k count (h.of.call ∷ ks) = b (h.of.call ∷ ks) (h.of.from, h.of.stepped, subst (λ y. TextCalls a τ y ks) h.position next) in
        record {
          calls = j.calls;
          called = j.called;
          bytes_are = omega (arith, j.bytes_are, length-append (bytes c.result c.after) (all_bytes ks), h.of.length_is);
          accepted = j.accepted ∙ ap (λ t. t || some_call is_err ks) h.of.accepted;
          says = j.says ∙ ap (λ t. t || some_call ended ks) h.of.says;
        }

    or_false : (t : Bool) → (t || false) ≡ t
    or_false true = refl
    or_false false = refl

    -- the last call
    pub all_handed : {more : ℕ} (said : Bool) → HandsCall x more said → (r : Printout) → bytes_of r ≡ count + more → whole r ≡ said → headed r ≡ true → HandsBehind (Ok k) r
    all_handed said h r e w g =
        let c = h.call in
        let j : Joined k count (h.call ∷ []) = b (h.call ∷ []) (h.from, h.stepped, tt) in
        record {
          calls = j.calls;
          called = j.called;
          bytes = omega (arith, e, j.bytes_are, length-append (bytes c.result c.after) [], h.length_is);
          accepted = j.accepted ∙ ap (λ t. t || false) h.accepted;
          whole_is = w ∙ sym (j.says ∙ or_false (ended c.result) ∙ h.says);
          headed_is = g;
          stops = λ f. absurd (true≢false f);
        }
