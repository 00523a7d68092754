-- What a verdict does: it is not taken and nothing changes, or the rule is applied.
use Rattle.std.specs.Prelude.{◌≡◌, Result, Ok, Err, false, List, ℕ}
use Rattle.std.proofs.Common.{ap, arith}
use Rattle.meaning.specs.Agreement.{Agree}
use Rattle.automaton.specs.declared.Automaton.{Automaton}
use Rattle.refusals.specs.declared.Refusal.{Refusal}
use Rattle.automaton.specs.Value.{Valid}
use Rattle.automaton.specs.View.{view}
use Rattle.search_rule.specs.declared.Search.{Search}
use Rattle.search.specs.declared.Reply.{Reply}
use Rattle.search.specs.declared.Reply.TheVariants.{Taken, Finished}
use Rattle.search_rule.specs.Rule as rule
use Rattle.search.specs.Replies as reply
use Rattle.search.specs.Replies.{next, AskedFor, InfOfAll}
use Rattle.search.specs.Calls.{Verdict, table, none, unknown, Meets, WasTaken, one_taken}

-- a table that the rule takes
pub record Fitting (s : Search) (t : Automaton) : Type 0 where
  pub valid : Valid t
  pub asked_for : AskedFor s t
  pub inf_of_all : InfOfAll t
  pub same_propositions : t.propositions ≡ s.reference.propositions
  pub agrees : Agree (view t) (view s.reference)

-- the rule, by what was told
pub data Moves (s : Search) : Verdict → Search → Type 0 where
  by_table : {t : Automaton} {p q l m : List ℕ} → Fitting s t → Moves s (table t p q l m) (rule.found t s)
  by_none : Moves s none (rule.none s)
  by_unknown : Moves s unknown (rule.unknown s)

pub data Step (s : Search) (v : Verdict) (r : Result Reply Refusal) : Type 0 where
  same : one_taken r ≡ 0 → next s r ≡ s → Step s v r
  moved : s.finished ≡ false → (t : Search) → r ≡ Ok (Taken t) → Moves s v t → Step s v r

pub counts_not : (x : Result Reply Refusal) → one_taken x ≡ 0 → ¬ WasTaken x
counts_not x o (t, e) = omega (arith, o, ap one_taken e)

module _ {s : Search} {v : Verdict} {r : Result Reply Refusal} where
  turned_down : {f : Refusal} → r ≡ Err f → Step s v r
  turned_down e = same (ap one_taken e) (ap (next s) e)

  over : r ≡ Ok Finished → Step s v r
  over e = same (ap one_taken e) (ap (next s) e)

  goes_on : {t : Search} → s.finished ≡ false → r ≡ Ok (Taken t) → Moves s v t → Step s v r
  goes_on {t} h e m = moved h t e m

  step_told : {t : Search} → Moves s v t → reply.Told s t r → Step s v r
  step_told m (reply.outside i e c) = turned_down e
  step_told m (reply.finished i h e c) = over e
  step_told m (reply.taken i h e c) = goes_on h e m

pub step : (s : Search) (v : Verdict) (r : Result Reply Refusal) → Meets s v r → Step s v r
step s (table t p q l m) r k = go k
  where
    go : reply.Found s t p q l m r → Step s (table t p q l m) r
    go (reply.short_prefix h (e, x, y, c)) = turned_down e
    go (reply.short_loop h g (e, x, y, c)) = turned_down e
    go (reply.outside h g (e, x, y, c)) = turned_down e
    go (reply.finished h i w g (e, x, y, c)) = over e
    go (reply.dimensions h j g (e, x, y, c)) = turned_down e
    go (reply.acceptance h j a i (e, x, y, c)) = turned_down e
    go (reply.letters h j a i g (e, x, y, c)) = turned_down e
    go (reply.differ h j a i g f d) = turned_down d.says
    go (reply.taken h j a i g f (e, x, y, c)) =
        goes_on j.unfinished e (by_table (record { valid = j.valid; asked_for = a; inf_of_all = i; same_propositions = g; agrees = f }))
step s none r k = step_told by_none k
step s unknown r k = step_told by_unknown k
