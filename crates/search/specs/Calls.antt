-- DEFINITIONS: a list of calls of a search, and what is said of it.
use Rattle.std.specs.Prelude.{◌≡◌, ◌⊎◌, Result, Ok, Err, true, false, ℕ, ◌+◌, ◌-◌, ◌≤◌, ◌<◌}
use mathlib.Core.List.{List, [], ◌∷◌, Memᴰ}
use Rattle.meaning.specs.Agreement.{Agree}
use Rattle.automaton.specs.declared.Automaton.{Automaton}
use Rattle.refusals.specs.declared.Refusal.{Refusal}
use Rattle.automaton.specs.Value.{Valid}
use Rattle.automaton.specs.View.{view}
use Rattle.search_rule.specs.declared.Search.{Search}
use Rattle.search.specs.declared.Reply.{Reply}
use Rattle.search.specs.declared.Reply.TheVariants.{Taken, Finished}
use Rattle.search_rule.specs.Rule as rule
use Rattle.search.specs.Replies.{next, InfOfAll, Found, Told}

-- ---- the calls

-- what a search is told: a table, with the lent buffers before and after the call, "none" or "unknown"
pub data Verdict : Type 0 where
  table : (t : Automaton) (prefix prefix-after loop loop-after : List ℕ) → Verdict
  none : Verdict
  unknown : Verdict

-- the state handed in, what it was told, and what came back
pub record Call : Type 0 where
  pub from : Search
  pub verdict : Verdict
  pub reply : Result Reply Refusal

-- a reply that meets the contract of its call
abbrev pub Meets : Search → Verdict → Result Reply Refusal → Type 0
Meets s (table t prefix prefix-after loop loop-after) r = Found s t prefix prefix-after loop loop-after r
Meets s none r = Told s (rule.none s) r
Meets s unknown r = Told s (rule.unknown s) r

-- calls from the state s on, each with the state that the one before it left, whatever its answer
abbrev pub Calls : Search → List Call → Type 0
Calls s [] = Unit {0}
Calls s (c ∷ cs) = (c.from ≡ s) × Meets s c.verdict c.reply × Calls (next s c.reply) cs

-- the state that they leave
abbrev pub after : Search → List Call → Search
after s [] = s
after s (c ∷ cs) = after (next s c.reply) cs

-- ---- how many were taken

-- the rule was applied
abbrev pub WasTaken : Result Reply Refusal → Type 0
WasTaken r = (t : Search) × (r ≡ Ok (Taken t))

abbrev pub one_taken : Result Reply Refusal → ℕ
one_taken (Ok (Taken t)) = 1
one_taken (Ok Finished) = 0
one_taken (Err f) = 0

abbrev pub taken : List Call → ℕ
taken [] = 0
taken (c ∷ cs) = one_taken c.reply + taken cs

-- of these, tables
abbrev pub one_table : Verdict → Result Reply Refusal → ℕ
one_table (table t prefix prefix-after loop loop-after) r = one_taken r
one_table none r = 0
one_table unknown r = 0

abbrev pub tables : List Call → ℕ
tables [] = 0
tables (c ∷ cs) = one_table c.verdict c.reply + tables cs

-- ---- what is asked, and why it finishes

-- the verdict v was taken, on the question of n states and m sets
pub record Heard (v : Verdict) (cs : List Call) (n m : ℕ) : Type 0 where
  pub call : Call
  pub listed : Memᴰ call cs
  pub is : call.verdict ≡ v
  pub was_taken : WasTaken call.reply
  pub asked_n : call.from.n ≡ n
  pub asked_m : call.from.m ≡ m

-- "none" was taken with m sets, and with no fewer states than s asks for
pub record Tried (cs : List Call) (s : Search) (m : ℕ) : Type 0 where
  pub n : ℕ
  pub n_from : s.n ≤ n
  pub heard : Heard none cs n m

-- the question of s, or its last: "at one state below the best but at most 8", and at a count before which every one from the reference's on was tried
pub record Asks (a : Automaton) (cs : List Call) (s : Search) : Type 0 where
  pub n_is : s.n ≡ rule.below s.best.states
  pub m_from : a.sets ≤ s.m
  pub m_le : s.m ≤ 4
  pub tried : (m : ℕ) → a.sets ≤ m → m < s.m → Tried cs s m

-- a search that is finished has heard why: no table has fewer states than 1; "none" with 4 sets; "unknown"
pub data Reason (cs : List Call) (s : Search) : Type 0 where
  smallest : s.best.states ≡ 1 → s.open ≡ false → Reason cs s
  no_table : Heard none cs s.n 4 → s.m ≡ 4 → s.open ≡ false → Reason cs s
  not_known : Heard unknown cs s.n s.m → s.open ≡ true → Reason cs s

-- what one call does
pub record Effect (c : Call) : Type 0 where
  -- the best table stays, or one with fewer states takes its place
  pub best : ((next c.from c.reply).best ≡ c.from.best) ⊎ ((next c.from c.reply).best.states < c.from.best.states)
  -- a verdict that is not taken changes nothing, and a finished search takes none
  pub not_taken : ¬ WasTaken c.reply → next c.from c.reply ≡ c.from
  pub finished : c.from.finished ≡ true → ¬ WasTaken c.reply

-- ---- what holds of a list of calls of a search for the reference a, and of the state s that they leave. Every beginning of the list is such a
-- list, so it holds at every point.
pub record Searches (a : Automaton) (cs : List Call) (s : Search) : Type 0 where
  pub reference : s.reference ≡ a
  -- the best table agrees with the reference on every lasso word
  pub valid : Valid s.best
  pub agrees : Agree (view s.best) (view a)
  pub states_le : s.best.states ≤ a.states
  pub same_propositions : s.best.propositions ≡ a.propositions
  -- and its acceptance is Inf of all sets, unless it is still the reference
  pub inf_of_all : (s.best ≡ a) ⊎ InfOfAll s.best
  -- a question for at least one state, or a reason to ask no more
  pub asks : Asks a cs s
  pub n_some : s.finished ≡ false → 1 ≤ s.n
  pub not_open : s.finished ≡ false → s.open ≡ false
  pub reason : s.finished ≡ true → Reason cs s
  -- it ends: so many tables and so many verdicts are taken, and no more
  pub tables_le : tables cs ≤ rule.below a.states
  pub taken_le : taken cs ≤ rule.below a.states + (4 - a.sets)
  pub at_most_12 : taken cs ≤ 12
  pub each : (c : Call) → Memᴰ c cs → Effect c
