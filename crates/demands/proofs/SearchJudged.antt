-- The search is judged by its conditions.
use Rattle.std.specs.Prelude.{◌≡◌, refl, ◌≢◌, Result, Err, Bool, true, false, List, [], ℕ, length}
use Rattle.std.proofs.Common.{sym, ap, ◌∙◌, inl, inr, true≢false, arith}
use Rattle.std.proofs.Math.Option.{none, some, some_inj}
use Rattle.automaton.specs.declared.Automaton.{Automaton}
use Rattle.refusals.specs.declared.Code.{Code}
use Rattle.refusals.specs.declared.Refusal.{Refusal}
use Rattle.refusals.specs.Refused.{code_of}
use Rattle.search_rule.specs.declared.Search.{Search}
use Rattle.search.specs.declared.Reply.{Reply}
use Rattle.search.specs.Replies.{next, Started, Told, Found, Untouched, returned as search-said}
use Rattle.search.specs.Replies as state
use Rattle.demands.specs.Judgement.{TurnedDown, Accepted, Judged}
use Rattle.demands.specs.Conditions.{to_start, to_go_on, to_find, JudgesFinding}
use Rattle.demands.proofs.Decisions.{some_none, other_number, judged_refused, judged_accepted}

pub start_judged : {a : Automaton} {r : Result Search Refusal} → Started a r → Judged (to_start a) (search-said r) (Unit {0})
start_judged (state.outside n e c) = judged_refused (inl (n, refl)) c tt
start_judged (state.taken v e c) = judged_accepted (v, tt) c

pub told_judged : {s t : Search} {r : Result Reply Refusal} → Told s t r → Judged (to_go_on s) (search-said r) (next s r ≡ s)
told_judged {s} (state.outside n e c) = judged_refused (inl (n, refl)) c (ap (next s) e)
told_judged (state.finished i f e c) = judged_accepted (i, tt) c
told_judged (state.taken i f e c) = judged_accepted (i, tt) c

ended : {P : Type 0} (b : Bool) → b ≡ true → b ≡ false → P
ended b t f = absurd (true≢false (sym t ∙ f))

module _ {s : Search} {table : Automaton} {prefix prefix-after loop loop-after : List ℕ} {r : Result Reply Refusal} where
  -- a refusal that leaves both buffers as they were
  refusal : {f : Refusal} → TurnedDown (to_find s table (length prefix) (length loop) 0 0) (code_of f) → Untouched s table prefix prefix-after loop loop-after r (Err f) (some (code_of f))
      → (code_of f).number ≢ 12 → JudgesFinding s table prefix prefix-after loop loop-after r
  refusal t (e, p, l, c) other = record {
    x = [];
    y = [];
    judged = judged_refused t c (ap (next s) e, p, l);
    empty = λ k d n. (refl, refl);
    shown = λ k. other_number c other;
    accepted = λ d. (p, l);
  }

  -- a reply that is no refusal
  reply : Accepted (to_find s table (length prefix) (length loop) 0 0) → search-said r ≡ none → (prefix-after ≡ prefix) × (loop-after ≡ loop)
      → JudgesFinding s table prefix prefix-after loop loop-after r
  reply t e u =
      record { x = []; y = []; judged = judged_accepted t e; empty = λ k d n. (refl, refl); shown = λ k d is. some_none (sym d ∙ e); accepted = λ d. u }

  pub found_judged : Found s table prefix prefix-after loop loop-after r → JudgesFinding s table prefix prefix-after loop loop-after r
  found_judged (state.short_prefix h u) = refusal (inl (λ g. absurd (omega arith), refl)) u (λ is. omega arith)
  found_judged (state.short_loop h g u) = refusal (inr (h, inl (λ k. absurd (omega arith), refl))) u (λ is. omega arith)
  found_judged (state.outside m n u) = refusal (inr (m.prefix_room_fits, inr (m.loop_room_fits, inl (n, refl)))) u (λ is. omega arith)
  found_judged (state.finished m i v t (e, p, l, c)) =
      reply (m.prefix_room_fits, (m.loop_room_fits, ((i, v), ((λ f. ended s.finished t f), ((λ f. ended s.finished t f), ((λ f. ended s.finished t f), ((λ f. ended s.finished t f), tt))))))) c (p, l)
  found_judged (state.dimensions m d n u) =
      refusal (inr (m.prefix_room_fits, inr (m.loop_room_fits, inr ((d.in_range, d.valid), inl (λ k. n (k d.unfinished), refl))))) u (λ is. omega arith)
  found_judged (state.acceptance m d a n u) =
      refusal (inr (m.prefix_room_fits, inr (m.loop_room_fits, inr ((d.in_range, d.valid), inr (λ f. a, inl (λ k. n (k d.unfinished), refl)))))) u (λ is. omega arith)
  found_judged (state.letters m d a i n u) =
      refusal (inr (m.prefix_room_fits, inr (m.loop_room_fits, inr ((d.in_range, d.valid), inr (λ f. a, inr (λ f. i, inl (λ k. n (k d.unfinished), refl))))))) u (λ is. omega arith)
  found_judged (state.differ m d a i k n w) =
      let said = w.number in
      record {
        x = w.shown.x;
        y = w.shown.y;
        judged =
            judged_refused
            (inr (m.prefix_room_fits, inr (m.loop_room_fits, inr ((d.in_range, d.valid), inr (λ f. a, inr (λ f. i, inr (λ f. k, inl (λ g. n (g d.unfinished), refl))))))))
            said
            (ap (next s) w.says, w.shown.prefix_is, w.shown.loop_is);
        empty = λ c e other. absurd (other (ap (λ (k : Code). k.number) (some_inj.0 (sym e ∙ said))));
        shown = λ c e is. w.shown.word;
        accepted = λ e. some_none (sym said ∙ e);
      }
  found_judged (state.taken m d a i k g (e, p, l, c)) =
      reply (m.prefix_room_fits, (m.loop_room_fits, ((d.in_range, d.valid), ((λ f. a), ((λ f. i), ((λ f. k), ((λ f. g), tt))))))) c (p, l)
