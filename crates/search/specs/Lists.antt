-- What a call, and a list of calls, make of a search.
use Rattle.std.specs.Prelude.{◌≡◌, refl, ◌⊎◌, Result, Ok, true, false, ◌+◌, ◌≤◌, ◌<◌}
use Rattle.std.proofs.Common.{sym, ap, ◌∙◌, subst, inl, inr, ⊎_elim, true≢false, arith}
use mathlib.Core.List.Memᴰ
use mathlib.Core.List.{List, [], ◌∷◌, Memᴰ}
use Rattle.automaton.specs.declared.Automaton.{Automaton}
use Rattle.refusals.specs.declared.Refusal.{Refusal}
use Rattle.search_rule.specs.declared.Search.{Search}
use Rattle.search.specs.declared.Reply.{Reply}
use Rattle.search.specs.declared.Reply.TheVariants.{Taken}
use Rattle.search.specs.Replies.{next}
use Rattle.search.specs.Calls.{Verdict, table, none, unknown, Call, Calls, after, WasTaken, one_taken, taken, one_table, tables, Effect}
use Rattle.search.specs.Moves.{Step, same, moved, Moves, by_table, by_none, by_unknown, step, counts_not}
use Rattle.search.specs.Kept.{Kept, kept_moves, found_fewer, none_cases, left, left_falls}

-- ---- one call

-- a finished search takes nothing
finished_takes_none : {s : Search} {v : Verdict} {r : Result Reply Refusal} → s.finished ≡ true → Step s v r → ¬ WasTaken r
finished_takes_none {r = r} h (same o e) = counts_not r o
finished_takes_none h (moved u t e m) = absurd (true≢false (sym h ∙ u))

not_taken_same : {s : Search} {v : Verdict} {r : Result Reply Refusal} → ¬ WasTaken r → Step s v r → next s r ≡ s
not_taken_same h (same o e) = e
not_taken_same h (moved u t e m) = absurd (h (t, e))

none_taken : (v : Verdict) (x : Result Reply Refusal) → one_taken x ≡ 0 → one_table v x ≡ 0
none_taken (table t p q l m) x o = o
none_taken none x o = refl
none_taken unknown x o = refl

module _ {a : Automaton} {s : Search} (k : Kept a s) where
  pub kept_step : {v : Verdict} {r : Result Reply Refusal} → Step s v r → Kept a (next s r)
  kept_step (same o e) = subst (Kept a) (sym e) k
  kept_step (moved u t e m) = rw e (kept_moves k u m)

  left_step : {v : Verdict} {r : Result Reply Refusal} → Step s v r → one_taken r + left (next s r) ≤ left s
  left_step (same o e) = rw (o, e) (omega arith)
  left_step (moved u t e m) = rw e (omega (arith, left_falls k u m))

  -- each table that is taken lowers n, and no verdict raises it
  n_moves : (u : s.finished ≡ false) {v : Verdict} {t : Search} → Moves s v t → one_table v (Ok (Taken t)) + t.n ≤ s.n
  n_moves u (by_table f) = omega (arith, k.n_some u)
  n_moves u by_none = none_cases k u (λ t. 0 + t.n ≤ s.n) (λ h. omega (arith, k.n_is)) (λ e. omega arith)
  n_moves u by_unknown = omega arith

  n_step : (v : Verdict) {r : Result Reply Refusal} → Step s v r → one_table v r + (next s r).n ≤ s.n
  n_step v {r} (same o e) = rw (none_taken v r o, e) (omega arith)
  n_step v (moved u t e m) = rw e (n_moves u m)

  -- the best table stays, or one with fewer states takes its place
  abbrev Improves : Search → Type 0
  Improves t = (t.best ≡ s.best) ⊎ (t.best.states < s.best.states)

  best_moves : (u : s.finished ≡ false) {v : Verdict} {t : Search} → Moves s v t → Improves t
  best_moves u (by_table f) = inr (found_fewer k u f)
  best_moves u by_none = none_cases k u Improves (λ h. inl refl) (λ e. inl refl)
  best_moves u by_unknown = inl refl

  best_step : {v : Verdict} {r : Result Reply Refusal} → Step s v r → Improves (next s r)
  best_step (same o e) = inl (ap (λ t. t.best) e)
  best_step (moved u t e m) = rw e (best_moves u m)

effect : {a : Automaton} (c : Call) → Kept a c.from → Step c.from c.verdict c.reply → Effect c
effect c k p = record { best = best_step k p; not_taken = λ x. not_taken_same x p; finished = λ h. finished_takes_none h p }

-- ---- a list of calls

pub after_finished : (s : Search) (cs : List Call) → s.finished ≡ true → Calls s cs → after s cs ≡ s
after_finished s [] h k = refl
after_finished s (c ∷ cs) h (e, t, k) =
    let p = step s c.verdict c.reply t in
    let q = not_taken_same (finished_takes_none h p) p in
    after_finished (next s c.reply) cs (ap (λ s. s.finished) q ∙ h) k ∙ q

module _ {a : Automaton} where
  pub kept_after : (s : Search) (cs : List Call) → Kept a s → Calls s cs → Kept a (after s cs)
  kept_after s [] k u = k
  kept_after s (c ∷ cs) k (e, t, u) = kept_after (next s c.reply) cs (kept_step k (step s c.verdict c.reply t)) u

  pub each_call : (s : Search) (cs : List Call) → Kept a s → Calls s cs → (c : Call) → Memᴰ c cs → Effect c
  each_call s [] k u c j = absurd (Memᴰ.not-nil j)
  each_call s (b ∷ bs) k (e, t, u) c j =
      let p = step s b.verdict b.reply t in
      ⊎_elim
      (λ g. subst Effect (sym g) (effect b (subst (Kept a) (sym e) k) (subst (λ s. Step s b.verdict b.reply) (sym e) p)))
      (λ j. each_call (next s b.reply) bs (kept_step k p) u c j)
      (Memᴰ.cases_cons j)

  pub taken_left : (s : Search) (cs : List Call) → Kept a s → Calls s cs → taken cs ≤ left s
  taken_left s [] k u = omega arith
  taken_left s (c ∷ cs) k (e, t, u) =
      let p = step s c.verdict c.reply t in
      omega (arith, taken_left (next s c.reply) cs (kept_step k p) u, left_step k p)

  pub tables_n : (s : Search) (cs : List Call) → Kept a s → Calls s cs → tables cs + (after s cs).n ≤ s.n
  tables_n s [] k u = omega arith
  tables_n s (c ∷ cs) k (e, t, u) =
      let p = step s c.verdict c.reply t in
      omega (arith, tables_n (next s c.reply) cs (kept_step k p) u, n_step k c.verdict p)
