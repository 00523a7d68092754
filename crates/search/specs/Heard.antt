-- What a list of calls has heard: "none" for every set count that it has left behind, and why it is finished.
use Rattle.std.specs.Prelude.{◌≡◌, refl, ◌⊎◌, true, false, List, [], ◌∷◌, ℕ, ◌-◌, ◌≤◌, ◌<◌}
use Rattle.std.proofs.Common.{sym, ap, ◌∙◌, subst, inl, inr, arith, eqb-true}
use mathlib.Core.List.Memᴰ
use Rattle.std.proofs.Math.Decide.{dec_lt}
use Rattle.automaton.specs.declared.Automaton.{Automaton}
use Rattle.search_rule.specs.declared.Search.{Search}
use Rattle.search_rule.specs.Rule.{below}
use Rattle.search.specs.Replies.{next}
use Rattle.search.specs.Calls.{Verdict, none, unknown, Call, Calls, after, WasTaken, Heard, Tried, Reason, smallest, no_table, not_known}
use Rattle.search.specs.Moves.{Step, same, moved, Moves, by_table, by_none, by_unknown, step}
use Rattle.search.specs.Kept.{Kept, none_cases}
use Rattle.search.specs.Lists.{kept_step, after_finished, tables_n}

-- ---- one more call in front

heard_later : {v : Verdict} {n m : ℕ} {cs : List Call} (c : Call) → Heard v cs n m → Heard v (c ∷ cs) n m
heard_later c h =
    record { call = h.call; listed = Memᴰ.tail h.listed; is = h.is; was_taken = h.was_taken; asked_n = h.asked_n; asked_m = h.asked_m }

tried_later : {s : Search} {m : ℕ} {cs : List Call} (c : Call) → Tried cs s m → Tried (c ∷ cs) s m
tried_later c t = record { n = t.n; n_from = t.n_from; heard = heard_later c t.heard }

reason_later : {s : Search} {cs : List Call} (c : Call) → Reason cs s → Reason (c ∷ cs) s
reason_later c (smallest e o) = smallest e o
reason_later c (no_table h e o) = no_table (heard_later c h) e o
reason_later c (not_known h o) = not_known (heard_later c h) o

-- ---- the first call

module _ {a : Automaton} {s : Search} (k : Kept a s) (u : s.finished ≡ false) (c : Call) (cs : List Call) (from : c.from ≡ s) (x : WasTaken c.reply) where
  heard : (v : Verdict) → c.verdict ≡ v → Heard v (c ∷ cs) s.n s.m
  heard v e = record { call = c; listed = Memᴰ.head refl; is = e; was_taken = x; asked_n = ap (λ s. s.n) from; asked_m = ap (λ s. s.m) from }

  -- m rises by "none" alone, and by one
  rises : (v : Verdict) → c.verdict ≡ v → {t : Search} → Moves s v t → (m : ℕ) → s.m ≤ m → m < t.m → Heard none (c ∷ cs) s.n m
  rises v e (by_table f) m h g = absurd (omega arith)
  rises v e by_none m h g =
      none_cases k u (λ t. m < t.m → Heard none (c ∷ cs) s.n m)
      (λ r g. subst (Heard none (c ∷ cs) s.n) (omega arith) (heard none e))
      (λ r g. absurd (omega arith)) g
  rises v e by_unknown m h g = absurd (omega arith)

  -- the verdict that finishes a search is the reason
  reason_moves : (v : Verdict) → c.verdict ≡ v → {t : Search} → Moves s v t → t.finished ≡ true → Reason (c ∷ cs) t
  reason_moves v e (by_table f) h = smallest (omega (arith, f.asked_for.states, eqb-true (s.n - 1) 0 h, k.n_some u)) (k.not_open u)
  reason_moves v e by_none h =
      none_cases k u (λ t. t.finished ≡ true → Reason (c ∷ cs) t)
      (λ g h. absurd (omega (arith, eqb-true (below s.best.states) 0 h, k.n_is, k.n_some u)))
      (λ g h. no_table (subst (Heard none (c ∷ cs) s.n) g (heard none e)) g (k.not_open u)) h
  reason_moves v e by_unknown h = not_known (heard unknown e) refl

-- ---- a list of calls

module _ {a : Automaton} where
  pub tried_after : (s : Search) (cs : List Call) → Kept a s → Calls s cs → (m : ℕ) → s.m ≤ m → m < (after s cs).m → Tried cs (after s cs) m
  tried_after s [] k u m h g = absurd (omega arith)
  tried_after s (c ∷ cs) k (e, t, u) m h g =
      go (step s c.verdict c.reply t) (dec_lt m (next s c.reply).m)
      (λ l. tried_after (next s c.reply) cs (kept_step k (step s c.verdict c.reply t)) u m l g)
    where
      last : Search
      last = after (next s c.reply) cs

      go : Step s c.verdict c.reply → Dec (m < (next s c.reply).m) → ((next s c.reply).m ≤ m → Tried cs last m) → Tried (c ∷ cs) last m
      go p (no l) later = tried_later c (later (omega arith))
      go (same o q) (yes l) later = absurd (omega (arith, ap (λ s. s.m) q))
      go (moved w r q v) (yes l) later = record {
        n = s.n;
        n_from = omega (arith, tables_n s (c ∷ cs) k (e, t, u));
        heard = rises k w c cs e (r, q) c.verdict refl v m h (subst (λ t. m < t.m) (ap (next s) q) l);
      }

  pub reason_after : (s : Search) (cs : List Call) → Kept a s → Calls s cs → (after s cs).finished ≡ true → (s.finished ≡ true) ⊎ Reason cs (after s cs)
  reason_after s [] k u h = inl h
  reason_after s (c ∷ cs) k (e, t, u) h =
      go (step s c.verdict c.reply t) (reason_after (next s c.reply) cs (kept_step k (step s c.verdict c.reply t)) u h)
    where
      go : Step s c.verdict c.reply → ((next s c.reply).finished ≡ true) ⊎ Reason cs (after (next s c.reply) cs)
          → (s.finished ≡ true) ⊎ Reason (c ∷ cs) (after (next s c.reply) cs)
      go p (inr r) = inr (reason_later c r)
      go (same o q) (inl f) = inl (ap (λ s. s.finished) (sym q) ∙ f)
      go (moved w t q m) (inl f) =
          inr (subst (Reason (c ∷ cs)) (sym (after_finished (next s c.reply) cs f u ∙ ap (next s) q))
          (reason_moves k w c cs e (t, q) c.verdict refl m (ap (λ x. (next s x).finished) (sym q) ∙ f)))
