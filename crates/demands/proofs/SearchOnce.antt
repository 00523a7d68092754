-- A found table has one outcome: two that the search's promise allows are the same. The rows of the promise shut each other out.
use Rattle.std.specs.Prelude.{◌≡◌, ◌⊎◌, Result, Ok, Err, false, List, ℕ, ◌≤◌, length}
use Rattle.std.proofs.Common.{sym, ◌∙◌, inl, inr, true≢false, arith}
use Rattle.std.proofs.Math.Option.{Option, none, some}
use Rattle.meaning.specs.Agreement.{Agree}
use Rattle.automaton.specs.declared.Automaton.{Automaton}
use Rattle.refusals.specs.declared.Code.{Code}
use Rattle.refusals.specs.declared.Refusal.{Refusal}
use Rattle.refusals.specs.declared.Refusal.TheVariants.{OtherAcceptance, Outside, Dimensions, Differ, Short, Propositions}
use Rattle.refusals.specs.Refused.{code_of}
use Rattle.automaton.specs.Value.{Valid}
use Rattle.automaton.specs.View.{view}
use Rattle.compare.specs.Compared.{prefix_room, loop_room}
use Rattle.search_rule.specs.declared.Search.{Search}
use Rattle.search_rule.specs.Rule as rule
use Rattle.search.specs.declared.Reply.{Reply}
use Rattle.search.specs.declared.Reply.TheVariants.{Taken, Finished}
use Rattle.search.specs.Replies.{Found, Untouched, Differs, InRange, AskedFor, InfOfAll}
use Rattle.search.specs.Replies as state
use Rattle.demands.proofs.ComparisonOnce.{Alike, alike, alike_word}

-- ---- a row: what is due where its condition is not met, and else the rows after it

abbrev Row : Type 0 → Type 0 → Type 0 → Type 0
Row met due rest = (¬ met × due) ⊎ (met × rest)

row_once : {met due rest due₁ rest₁ R : Type 0} → (due → due₁ → R) → (rest → rest₁ → R) → Row met due rest → Row met due₁ rest₁ → R
row_once f g (inl (n, d)) (inl (k, e)) = f d e
row_once f g (inl (n, d)) (inr (h, t)) = absurd (n h)
row_once f g (inr (h, s)) (inl (k, e)) = absurd (k h)
row_once f g (inr (h, s)) (inr (i, t)) = g s t

-- ---- a found table

module _ (s : Search) (table : Automaton) (prefix p loop l : List ℕ) (r : Result Reply Refusal) where
  abbrev Kept : Result Reply Refusal → Option Code → Type 0
  Kept = Untouched s table prefix p loop l r

  abbrev Refuses : Refusal → Type 0
  Refuses f = Kept (Err f) (some (code_of f))

  abbrev Rows : Type 0
  Rows =
      Row (prefix_room ≤ length prefix) (Refuses (Short prefix_room (length prefix)))
      (Row (loop_room ≤ length loop) (Refuses (Short loop_room (length loop)))
      (Row (InRange s × Valid table) (Refuses Outside)
      (Row (s.finished ≡ false) (Kept (Ok Finished) none)
      (Row (AskedFor s table) (Refuses (Dimensions table.states table.sets))
      (Row (InfOfAll table) (Refuses OtherAcceptance)
      (Row (table.propositions ≡ s.reference.propositions) (Refuses (Propositions table.propositions s.reference.propositions))
      (Row (Agree (view table) (view s.reference)) (Differs s table prefix p loop l r) (Kept (Ok (Taken (rule.found table s))) none))))))))

  rows : Found s table prefix p loop l r → Rows
  rows (state.short_prefix h u) = inl (λ g. absurd (omega arith), u)
  rows (state.short_loop h g u) = inr (h, inl (λ k. absurd (omega arith), u))
  rows (state.outside m n u) = inr (m.prefix_room_fits, inr (m.loop_room_fits, inl (n, u)))
  rows (state.finished m i v t u) = inr (m.prefix_room_fits, inr (m.loop_room_fits, inr ((i, v), inl (λ f. true≢false (sym t ∙ f), u))))
  rows (state.dimensions m d n u) = inr (m.prefix_room_fits, inr (m.loop_room_fits, inr ((d.in_range, d.valid), inr (d.unfinished, inl (n, u)))))
  rows (state.acceptance m d a n u) = inr (m.prefix_room_fits, inr (m.loop_room_fits, inr ((d.in_range, d.valid), inr (d.unfinished, inr (a, inl (n, u))))))
  rows (state.letters m d a i n u) = inr (m.prefix_room_fits, inr (m.loop_room_fits, inr ((d.in_range, d.valid), inr (d.unfinished, inr (a, inr (i, inl (n, u)))))))
  rows (state.differ m d a i k n w) = inr (m.prefix_room_fits, inr (m.loop_room_fits, inr ((d.in_range, d.valid), inr (d.unfinished, inr (a, inr (i, inr (k, inl (n, w))))))))
  rows (state.taken m d a i k g u) = inr (m.prefix_room_fits, inr (m.loop_room_fits, inr ((d.in_range, d.valid), inr (d.unfinished, inr (a, inr (i, inr (k, inr (g, u))))))))

module _ {s : Search} {table : Automaton} {prefix p q loop l m : List ℕ} {x y : Result Reply Refusal} where
  differs : Differs s table prefix p loop l x → Differs s table prefix q loop m y → Alike x y p q l m
  differs D E = alike_word D.shown E.shown (λ u v. Err (Differ u v)) D.says E.says

  pub finding_once : Found s table prefix p loop l x → Found s table prefix q loop m y → Alike x y p q l m
  finding_once F G =
      row_once alike (row_once alike (row_once alike (row_once alike (row_once alike (row_once alike (row_once alike (row_once differs alike)))))))
      (rows s table prefix p loop l x F) (rows s table prefix q loop m y G)
