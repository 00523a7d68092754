-- THE SEARCH, over every list of calls from the start: its best table agrees with the reference, it asks what it may, and it ends with a reason.
use Rattle.std.specs.Prelude.{◌≡◌, refl, Result, Ok, true, List, ◌+◌, ◌-◌, ◌≤◌, eqb}
use Rattle.std.proofs.Common.{sym, subst, ⊎_elim, le_trans, arith, eqb-true}
use Rattle.automaton.specs.declared.Automaton.{Automaton}
use Rattle.refusals.specs.declared.Refusal.{Refusal}
use Rattle.automaton.specs.Value.{Valid}
use Rattle.search_rule.specs.Rule.{below, fresh}
use Rattle.search_rule.specs.declared.Search.{Search}
use Rattle.search.specs.Replies as reply
use Rattle.search.specs.Replies.{Started}
use Rattle.search.specs.Calls.{Call, Calls, after, taken, Reason, smallest, Searches}
use Rattle.search.specs.Kept.{Kept, kept_fresh, remaining_le}
use Rattle.search.specs.Lists.{after_finished, kept_after, each_call, taken_left, tables_n}
use Rattle.search.specs.Heard.{tried_after, reason_after}

module _ {a : Automaton} (v : Valid a) (cs : List Call) (k : Calls (fresh a) cs) where
  kept_end : Kept a (after (fresh a) cs)
  kept_end = kept_after (fresh a) cs (kept_fresh v) k

  reason_end : (after (fresh a) cs).finished ≡ true → Reason cs (after (fresh a) cs)
  reason_end h =
      ⊎_elim (λ f. subst (Reason cs) (sym (after_finished (fresh a) cs f k)) (smallest (eqb-true a.states 1 f) refl)) (λ r. r)
      (reason_after (fresh a) cs (kept_fresh v) k h)

  fresh_searches : Searches a cs (after (fresh a) cs)
  fresh_searches =
      let e = kept_end in
      let t : taken cs ≤ below a.states + (4 - a.sets) =
      le_trans (taken_left (fresh a) cs (kept_fresh v) k) (remaining_le (eqb a.states 1) (below a.states) a.sets) in
      record {
        reference = e.reference;
        valid = e.valid;
        agrees = e.agrees;
        states_le = e.states_le;
        same_propositions = e.same_propositions;
        inf_of_all = e.inf_of_all;
        asks = record { n_is = e.n_is; m_from = e.m_from; m_le = e.m_le; tried = tried_after (fresh a) cs (kept_fresh v) k };
        n_some = e.n_some;
        not_open = e.not_open;
        reason = reason_end;
        tables_le = omega (arith, tables_n (fresh a) cs (kept_fresh v) k);
        taken_le = t;
        at_most_12 = omega arith;
        each = each_call (fresh a) cs (kept_fresh v) k;
      }

pub searches : {a : Automaton} {r : Result Search Refusal} {s : Search} → Valid a → Started a r → r ≡ Ok s → (cs : List Call) → Calls s cs → Searches a cs (after s cs)
searches v (reply.outside n e c) o cs k = absurd (n v)
searches {a} {r} {s} v (reply.taken w e c) o cs k =
    let q : fresh a ≡ s = cc in
    subst (λ s. Searches a cs (after s cs)) q (fresh_searches v cs (subst (λ s. Calls s cs) (sym q) k))
