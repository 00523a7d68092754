-- THE DECODER'S ANSWER TO A TEXT, whatever the pieces in which it came, and whether or not the reader was told that the text ends.
use Rattle.std.specs.Prelude.{◌≡◌, refl, ◌⊎◌, Result, Ok, List, ℕ, ◌≤◌, ◌<◌, eqb, length, get_or}
use Rattle.std.proofs.Common.{sym, ap, ◌∙◌, subst, inl, inr, arith}
use Rattle.std.proofs.Math.Option.{none}
use Rattle.automaton.specs.declared.Automaton.{Automaton}
use Rattle.refusals.specs.declared.Refusal.{Refusal}
use Rattle.automaton.specs.Value.{Valid}
use Rattle.encoding.specs.Clauses.{Assignment, Satisfies}
use Rattle.clause_sizes.specs.declared.Target.{Target}
use Rattle.clause_sizes.specs.Targets.{Proper, last, kept, file}
use Rattle.compare.specs.Compared.{prefix_room, loop_room}
use Rattle.solver_text.specs.declared.Reader.{Reader}
use Rattle.solver_text.specs.declared.Reply.{Reply}
use Rattle.solver_scan.specs.SolverText.{Outcome, outcome}
use Rattle.solver_agreement.specs.Assignment.{asserted, States}
use Rattle.solver_text.specs.Machine.{fresh, told}
use Rattle.solver_text.specs.Calls.{InRange, Reads, Ends, joined}
use Rattle.solver_text.specs.Answered.{called_text}
use Rattle.solver_agreement.specs.Counts.{kept_le}
use Rattle.solver_agreement.specs.Range.{run_kept}
use Rattle.solver_agreement.specs.Table.{table_asserted}
use Rattle.solver_agreement.specs.Pieces.{pieces, fresh_range, Tells, whole_text}
use Rattle.decode.specs.declared.Decoded.{Decoded}
use Rattle.decode.specs.declared.Decoded.TheVariants.{Table}
use Rattle.decode.specs.Table.{decoded_value, LowestWithout}
use Rattle.decode.specs.Answers.{whole, said, Untouched, ByComparison, ByAssignment, Admitted, Decodes, OfText}
use Rattle.decode.specs.Value.{steps_same, all_step_same, decoded_same_value}
use Rattle.decode.specs.Candidates.{satisfying_steps, satisfying_found}
use Rattle.solver_agreement.specs.Ended.{end_kept, end_again}

-- ---- the step and mark variables decide the answer

module _ (p p' l l' : List ℕ) (x : Result Decoded Refusal) (a : Automaton) (τ : Target) (ν ξ : Assignment) (same : (k : ℕ) → 0 < k → k ≤ kept a τ → ν k ≡ ξ k) where
  turned : (k : ℕ) → 0 < k → k ≤ kept a τ → ξ k ≡ ν k
  turned k h g = sym (same k h g)

  lowest_same : (q i : ℕ) → LowestWithout a τ ξ q i → LowestWithout a τ ν q i
  lowest_same q i w = record {
    state_lt = w.state_lt;
    letter_lt = w.letter_lt;
    no_step = λ t. w.no_step (steps_same a τ ν ξ same q i w.state_lt w.letter_lt t);
    before = λ r j hj e. steps_same a τ ξ ν turned r j (below e) hj (w.before r j hj e);
  }
    where
      below : {r j : ℕ} → (r < q) ⊎ ((r ≡ q) × (j < i)) → r < τ.states
      below (inl h) = omega (arith, w.state_lt)
      below (inr (e, h)) = omega (arith, w.state_lt)

  pub assignment_same : ByAssignment p p' l l' x a τ ν → ByAssignment p p' l l' x a τ ξ
  assignment_same b = record {
    no_step = λ q i w. b.no_step q i (lowest_same q i w);
    table = λ t. let u = all_step_same a τ ξ ν turned t in subst (λ C. ByComparison p p' l l' x a C) (decoded_same_value a τ ν ξ same u) (b.table u);
  }

-- ---- what the text says

module _ {a : Automaton} {τ : Target} (v : Valid a) (z : Proper τ) where
  in_range : {us : List (List ℕ)} {q : Reader} → Reads a τ fresh us q → InRange q
  in_range {us} k = subst InRange (sym (pieces v z fresh_range k)) (run_kept (last a τ) (kept a τ) fresh (joined us) fresh_range)

  ends_whole : {q : Reader} → InRange q → Ends a τ q (whole a τ q)
  ends_whole i = called_text v i z refl

  module _ {p p' l l' : List ℕ} {x : Result Decoded Refusal} (hp : prefix_room ≤ length p) (hl : loop_room ≤ length l) where
    -- what a reader holds
    held_answer : {r : Reader} (o : Outcome) → InRange r → Tells (kept a τ) o (whole a τ r) → Decodes p p' l l' x a τ r → OfText p p' l l' x a τ o
    held_answer {r} o i t d =
        let admitted : Admitted p p' l l' x a τ r = record { prefix_room_fits = hp; loop_room_fits = hl; valid = v; in_range = i; sizes = z } in
        record {
          refusal = λ f e. d.text admitted f (t.refusal f e);
          none = λ s e g. (d.accepted admitted (t.accepted s e)).none (t.verdict s e ∙ g);
          unknown = λ s e g. (d.accepted admitted (t.accepted s e)).unknown (t.verdict s e ∙ g);
          satisfiable = λ s e g.
              let same : (k : ℕ) → 0 < k → k ≤ kept a τ → said (whole a τ r).reader k ≡ asserted k s.literals = λ k _ h.
              ap (λ c. eqb (get_or c k 0) 1) (t.named s e) ∙ table_asserted (kept a τ) (kept_le v z) s.literals k h in
              assignment_same p p' l l' x a τ (said (whole a τ r).reader) (λ k. asserted k s.literals) same
              ((d.accepted admitted (t.accepted s e)).satisfiable (t.verdict s e ∙ g));
        }

    module _ {us : List (List ℕ)} {q : Reader} (k : Reads a τ fresh us q) where
      -- the decoder takes what the reader holds after the last piece
      pub text_answer : Decodes p p' l l' x a τ q → OfText p p' l l' x a τ (outcome (last a τ) (kept a τ) (joined us))
      text_answer = let i = in_range k in held_answer _ i (whole_text v z k (ends_whole i))

      -- or what it holds when the text has ended
      pub ended_answer : {e : Reply} → Ends a τ q e → Decodes p p' l l' x a τ e.reader → OfText p p' l l' x a τ (outcome (last a τ) (kept a τ) (joined us))
      ended_answer {e} c =
          let i = in_range k in
          let at : e ≡ whole a τ q = c.text v i z in
          let r : InRange e.reader = subst (λ y. InRange y.reader) (sym at) (end_kept (last a τ) (kept a τ) q i) in
          let again : whole a τ e.reader ≡ e = ap (λ y. whole a τ y.reader) at ∙ ap told (end_again (last a τ) (kept a τ) q) ∙ sym at in
          held_answer _ r (subst (Tells (kept a τ) (outcome (last a τ) (kept a τ) (joined us))) (sym again) (whole_text v z k c))

-- ---- a text that states an assignment

module _ {p p' l l' : List ℕ} {x : Result Decoded Refusal} {a : Automaton} {τ : Target} (ν : Assignment) where
  pub stated_answer : (text : List ℕ) → States (last a τ) (kept a τ) text ν → OfText p p' l l' x a τ (outcome (last a τ) (kept a τ) text)
      → ByAssignment p p' l l' x a τ ν
  stated_answer text s o =
      assignment_same p p' l l' x a τ (λ k. asserted k s.seen.literals) ν (λ k h g. sym (s.named k h g)) (o.satisfiable s.seen s.accepted s.verdict)

  -- where it satisfies the file, the table that it decodes to, and both buffers as they were
  pub satisfying_answer : Valid a → Proper τ → Satisfies ν (file a τ) → ByAssignment p p' l l' x a τ ν
      → Untouched p p' l l' x (Ok (Table (decoded_value a τ ν))) none
  satisfying_answer v z s b = (b.table (satisfying_steps v z ν s)).same (satisfying_found v z ν s).agrees

module _ {a : Automaton} {τ : Target} (v : Valid a) (z : Proper τ) {p p' l l' : List ℕ} {x : Result Decoded Refusal} (hp : prefix_room ≤ length p) (hl : loop_room ≤ length l)
    (ν : Assignment) (s : Satisfies ν (file a τ)) where
  -- for every list of pieces that make up a text which states an assignment that satisfies the file
  module _ {us : List (List ℕ)} {q : Reader} (k : Reads a τ fresh us q) (t : States (last a τ) (kept a τ) (joined us) ν) where
    pub satisfying_text : Decodes p p' l l' x a τ q → Untouched p p' l l' x (Ok (Table (decoded_value a τ ν))) none
    satisfying_text d = satisfying_answer ν v z s (stated_answer ν (joined us) t (text_answer v z hp hl k d))

    pub satisfying_ended : {e : Reply} → Ends a τ q e → Decodes p p' l l' x a τ e.reader → Untouched p p' l l' x (Ok (Table (decoded_value a τ ν))) none
    satisfying_ended c d = satisfying_answer ν v z s (stated_answer ν (joined us) t (ended_answer v z hp hl k c d))
