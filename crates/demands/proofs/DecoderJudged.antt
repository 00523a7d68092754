-- The decoder is judged by its conditions.
use Rattle.std.specs.Prelude.{◌≡◌, refl, ◌≢◌, ◌⊎◌, Result, Ok, Err, List, [], ℕ, ◌≤◌, length}
use Rattle.std.proofs.Common.{sym, ap, ◌∙◌, subst, inl, inr, ⊎_elim, arith}
use Rattle.std.proofs.Math.Logic.Dec.{and as dec_and, not as dec_not, not-not as dec_not_not}
use Rattle.std.proofs.Math.Option.{Option, none, some, some_inj}
use Rattle.std.proofs.Math.Decide.{dec_le}
use Rattle.acceptance.specs.Masks.{OwnSets}
use Rattle.automaton.specs.declared.Automaton.{Automaton}
use Rattle.refusals.specs.declared.Code.{Code}
use Rattle.refusals.specs.declared.Refusal.{Refusal}
use Rattle.refusals.specs.declared.Refusal.TheVariants.{Outside}
use Rattle.refusals.specs.Refused.{row, code_of}
use Rattle.automaton.specs.Value.{Valid}
use Rattle.encoding.specs.Clauses.{Assignment}
use Rattle.clause_sizes.specs.declared.Target.{Target}
use Rattle.clause_sizes.specs.Targets.{Dimensioned, Proper, last, kept}
use Rattle.compare.specs.Compared.{prefix_room, loop_room}
use Rattle.solver_text.specs.declared.Reader.{Reader}
use Rattle.solver_scan.specs.declared.Verdict.{Verdict}
use Rattle.solver_scan.specs.declared.Verdict.TheVariants.{Unstated, Satisfiable, Unsatisfiable, Unknown}
use Rattle.solver_text.specs.Machine.{end}
use Rattle.solver_text.specs.Calls.{InRange, returned as solution-said}
use Rattle.decode.specs.declared.Decoded.{Decoded}
use Rattle.decode.specs.Answers.{whole, Untouched, Admitted, ByVerdict, Decodes, returned as decoder-said}
use Rattle.decode.specs.Table.{decoded_value, AllStep, LowestWithout}
use Rattle.decode.specs.Value.{decoded_valid}
use Rattle.decode.specs.Missing.{all_or_lowest}
use Rattle.demands.specs.Judgement.{TurnedDown, Accepted}
use Rattle.demands.specs.Conditions.{fault_code, verdict_of, stated_by, to_decode, Answers, JudgesDecoding}
use Rattle.demands.proofs.SolverTextJudged.{fault_number}
use Rattle.demands.proofs.Decisions.{Decided, fault_decided, decision, some_none, other_number, judged_refused, judged_accepted, valid_decided, in_range_decided, dimensioned_decided, own_sets_decided, agree_decided}

-- ---- verdicts

unlike : {P : Type 0} → ◌≡◌ {A = ℕ} 0 1 → P
unlike e = absurd (omega arith)

unstated_decided : (v : Verdict) → Dec (v ≡ Unstated)
unstated_decided Unstated = yes refl
unstated_decided Satisfiable = no (λ e. unlike (cc))
unstated_decided Unsatisfiable = no (λ e. unlike (cc))
unstated_decided Unknown = no (λ e. unlike (cc))

satisfiable_decided : (v : Verdict) → Dec (v ≡ Satisfiable)
satisfiable_decided Unstated = no (λ e. unlike (cc))
satisfiable_decided Satisfiable = yes refl
satisfiable_decided Unsatisfiable = no (λ e. unlike (cc))
satisfiable_decided Unknown = no (λ e. unlike (cc))

-- what is asked where the verdict is SATISFIABLE
where_satisfiable : {v : Verdict} {P : Type 0} → Dec (v ≡ Satisfiable) → (v ≡ Satisfiable → Dec P) → Dec (v ≡ Satisfiable → P)
where_satisfiable {v} {P} (no k) d = yes (λ s. absurd (k s))
where_satisfiable {v} {P} (yes s) d = go (d s)
  where
    go : Dec P → Dec (v ≡ Satisfiable → P)
    go (yes p) = yes (λ s. p)
    go (no k) = no (λ f. k (f s))

-- ---- an answer of the reader

answer_accepted : (w : Result (Unit {0}) Refusal) → solution-said w ≡ none → w ≡ Ok tt
answer_accepted (Ok u) e = refl
answer_accepted (Err f) e = some_none e

answer_refused : (w : Result (Unit {0}) Refusal) → ¬ (solution-said w ≡ none) → (f : Refusal) × (w ≡ Err f)
answer_refused (Ok u) k = absurd (k refl)
answer_refused (Err f) k = (f, refl)

-- ---- the decoder

module _ {prefix prefix-after loop loop-after : List ℕ} {answer : Result Decoded Refusal} {a : Automaton} {τ : Target} {r : Reader}
    (d : Decodes prefix prefix-after loop loop-after answer a τ r) where
  abbrev ν : Assignment
  ν = stated_by a τ r

  abbrev Judges : Type 0
  Judges = JudgesDecoding a τ r prefix prefix-after loop loop-after answer

  abbrev Kept : Result Decoded Refusal → Option Code → Type 0
  Kept = Untouched prefix prefix-after loop loop-after answer

  outside : prefix_room ≤ length prefix → loop_room ≤ length loop → ¬ (Valid a × InRange r) → Kept (Err Outside) (some (row 4 0 0))
  outside h g k = go (valid_decided a)
    where
      go : Dec (Valid a) → Kept (Err Outside) (some (row 4 0 0))
      go (yes v) = d.state h g (λ i. k (v, i))
      go (no v) = d.automaton h g v

  module _ (h : prefix_room ≤ length prefix) (g : loop_room ≤ length loop) (v : Valid a × InRange r) (z : Proper τ) where
    admitted : Admitted prefix prefix-after loop loop-after answer a τ r
    admitted = record { prefix_room_fits = h; loop_room_fits = g; valid = v.0; in_range = v.1; sizes = z }

    -- what is answered to an accepted text, by its verdict
    accepting : solution-said (whole a τ r).answer ≡ none → ByVerdict prefix prefix-after loop loop-after answer a τ (whole a τ r).reader
    accepting e = d.accepted admitted (answer_accepted (whole a τ r).answer e)

  proper : Dimensioned τ → OwnSets τ.acceptance τ.sets → Proper τ
  proper z o = record { dimensioned = z; sets_owned = o }

  -- what a text is refused with is 9 or 10
  text_number : (f : Refusal) → (whole a τ r).answer ≡ Err f → (code_of f).number ≢ 12
  text_number f e is =
      ⊎_elim (λ t. omega arith) (λ t. omega arith) (fault_number (end (last a τ) (kept a τ) r) (code_of f) (ap solution-said e))

  module _ (state letter : ℕ) (low : ¬ AllStep a τ (stated_by a τ r) → LowestWithout a τ (stated_by a τ r) state letter) where
    -- without a word
    abbrev Fails : Code → Type 0
    Fails = TurnedDown (to_decode a τ r (length prefix) (length loop) state letter 0 0)

    abbrev Passes : Type 0
    Passes = Accepted (to_decode a τ r (length prefix) (length loop) state letter 0 0)

    decided : Decided (to_decode a τ r (length prefix) (length loop) state letter 0 0)
    decided = (
      dec_le prefix_room (length prefix),
      λ h. (
        dec_le loop_room (length loop),
        λ g. (
          dec_and (valid_decided a) (in_range_decided r),
          λ v. (
            dimensioned_decided τ,
            λ z. (
              own_sets_decided τ,
              λ o. (
                fault_decided (solution-said (whole a τ r).answer),
                λ e. (
                  dec_not (unstated_decided (verdict_of a τ r)),
                  λ k. (
                    where_satisfiable (satisfiable_decided (verdict_of a τ r)) (λ s. all_step_decided),
                    λ t. (
                      where_satisfiable (satisfiable_decided (verdict_of a τ r)) (λ s.
                          agree_decided (decoded_value a τ ν) a (decoded_valid v.0 (proper z o) ν (t s)) v.0 refl),
                      λ s. tt,
                    ),
                  ),
                ),
              ),
            ),
          ),
        ),
      ),
    )
      where
        all_step_decided : Dec (AllStep a τ (stated_by a τ r))
        all_step_decided = go (all_or_lowest a τ (stated_by a τ r))
          where
            go : AllStep a τ (stated_by a τ r) ⊎ ((q l : ℕ) × LowestWithout a τ (stated_by a τ r) q l) → Dec (AllStep a τ (stated_by a τ r))
            go (inl t) = yes t
            go (inr (q, l, w)) = no (λ t. w.no_step (t q l w.state_lt w.letter_lt))

    -- a refusal that leaves both buffers as they were
    refusal : {f : Refusal} {k : Code} → Fails k → Kept (Err f) (some (code_of f)) → k ≡ code_of f → (code_of f).number ≢ 12 → Judges
    refusal {f} {k} t (e, p, l, returns) g other =
        let said : decoder-said answer ≡ some k = returns ∙ ap some (sym g) in
        record {
          state = state;
          letter = letter;
          x = [];
          y = [];
          judged = judged_refused t said (p, l);
          lowest = low;
          empty = λ k s n. (refl, refl);
          shown = λ k. other_number returns other;
          accepted = λ s. some_none (sym said ∙ s);
        }

    acceptance : {w : Verdict} {y : Result Decoded Refusal} → Passes → verdict_of a τ r ≡ w → (answer ≡ y → Answers w (decoded_value a τ ν) answer) → Kept y none → Judges
    acceptance t q is (e, p, l, returns) = record {
      state = state;
      letter = letter;
      x = [];
      y = [];
      judged = judged_accepted t returns;
      lowest = low;
      empty = λ k s other. (refl, refl);
      shown = λ c s is. some_none (sym s ∙ returns);
      accepted = λ s. (subst (λ w. Answers w (decoded_value a τ ν) answer) (sym q) (is e), p, l);
    }

    result : ((k : Code) × Fails k) ⊎ Passes → Judges
    result (inl (k, inl (h, e))) = refusal (inl (h, e)) (d.short_prefix (omega arith)) e (λ is. omega arith)
    result (inl (k, inr (h, inl (g, e)))) = refusal (inr (h, inl (g, e))) (d.short_loop h (omega arith)) e (λ is. omega arith)
    result (inl (k, inr (h, inr (g, inl (v, e))))) = refusal (inr (h, inr (g, inl (v, e)))) (outside h g v) e (λ is. omega arith)
    result (inl (k, inr (h, inr (g, inr (v, inl (z, e)))))) =
        refusal (inr (h, inr (g, inr (v, inl (z, e))))) (d.dimensions h g v.0 v.1 z) e (λ is. omega arith)
    result (inl (k, inr (h, inr (g, inr (v, inr (z, inl (o, e))))))) =
        refusal (inr (h, inr (g, inr (v, inr (z, inl (o, e)))))) (d.acceptance h g v.0 v.1 z o) e (λ is. omega arith)
    result (inl (k, inr (h, inr (g, inr (v, inr (z, inr (o, inl (f, e)))))))) =
        let (b, w) = answer_refused (whole a τ r).answer f in
        refusal (inr (h, inr (g, inr (v, inr (z, inr (o, inl (f, e))))))) (d.text (admitted h g v (proper z o)) b w)
        (e ∙ ap (λ w. fault_code (solution-said w)) w) (text_number b w)
    result (inl (k, inr (h, inr (g, inr (v, inr (z, inr (o, inr (f, inl (u, e))))))))) =
        refusal (inr (h, inr (g, inr (v, inr (z, inr (o, inr (f, inl (u, e)))))))) ((accepting h g v (proper z o) f).unstated ((dec_not_not (unstated_decided (verdict_of a τ r))).0 u)) e (λ is. omega arith)
    result (inl (k, inr (h, inr (g, inr (v, inr (z, inr (o, inr (f, inr (u, inl (t, e)))))))))) = stuck (satisfiable_decided (verdict_of a τ r))
      where
        stuck : Dec (verdict_of a τ r ≡ Satisfiable) → Judges
        stuck (no j) = absurd (t (λ s. absurd (j s)))
        stuck (yes s) =
            refusal (inr (h, inr (g, inr (v, inr (z, inr (o, inr (f, inr (u, inl (t, e)))))))))
            (((accepting h g v (proper z o) f).satisfiable s).no_step state letter (low (λ all. t (λ s. all)))) e (λ is. omega arith)
    result (inl (k, inr (h, inr (g, inr (v, inr (z, inr (o, inr (f, inr (u, inr (t, inl (j, e))))))))))) = differing (satisfiable_decided (verdict_of a τ r))
      where
        differing : Dec (verdict_of a τ r ≡ Satisfiable) → Judges
        differing (no i) = absurd (j (λ s. absurd (i s)))
        differing (yes s) =
            let w = (((accepting h g v (proper z o) f).satisfiable s).table (t s)).differ (λ agree. j (λ s. agree)) in
            let said = w.number in
            record {
              state = state;
              letter = letter;
              x = w.shown.x;
              y = w.shown.y;
              judged = judged_refused (inr (h, inr (g, inr (v, inr (z, inr (o, inr (f, inr (u, inr (t, inl (j, refl)))))))))) said (w.shown.prefix_is, w.shown.loop_is);
              lowest = low;
              empty = λ k e other. absurd (other (ap (λ (k : Code). k.number) (some_inj.0 (sym e ∙ said))));
              shown = λ k e is. w.shown.word;
              accepted = λ e. some_none (sym said ∙ e);
            }
    result (inl (k, inr (h, inr (g, inr (v, inr (z, inr (o, inr (f, inr (u, inr (t, inr (j, e))))))))))) = absurd e
    result (inr (h, (g, (v, (z, (o, (f, (u, (t, (j, e)))))))))) = go (verdict_of a τ r) refl
      where
        go : (w : Verdict) → verdict_of a τ r ≡ w → Judges
        go Unstated q = absurd (u q)
        go Satisfiable q = acceptance (h, (g, (v, (z, (o, (f, (u, (t, (j, e))))))))) q (λ e. e) ((((accepting h g v (proper z o) f).satisfiable q).table (t q)).same (j q))
        go Unsatisfiable q = acceptance (h, (g, (v, (z, (o, (f, (u, (t, (j, e))))))))) q (λ e. e) ((accepting h g v (proper z o) f).none q)
        go Unknown q = acceptance (h, (g, (v, (z, (o, (f, (u, (t, (j, e))))))))) q (λ e. e) ((accepting h g v (proper z o) f).unknown q)

  pub decoder_judged : JudgesDecoding a τ r prefix prefix-after loop loop-after answer
  decoder_judged = go (all_or_lowest a τ (stated_by a τ r))
    where
      from : (state letter : ℕ) → (¬ AllStep a τ (stated_by a τ r) → LowestWithout a τ (stated_by a τ r) state letter) → Judges
      from state letter low =
          result state letter low (decision (to_decode a τ r (length prefix) (length loop) state letter 0 0) (decided state letter low))

      go : AllStep a τ (stated_by a τ r) ⊎ ((q l : ℕ) × LowestWithout a τ (stated_by a τ r) q l) → Judges
      go (inl t) = from 0 0 (λ k. absurd (k t))
      go (inr (q, l, w)) = from q l (λ k. w)
