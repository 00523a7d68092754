-- DEFINITIONS: what the search answers to each call, on all input: the reply, and what it leaves in the two lent buffers.
use Rattle.std.specs.Prelude.{◌≡◌, ◌≢◌, Result, Ok, Err, true, false, List, ℕ, ◌≤◌, ◌<◌, length}
use Rattle.std.proofs.Math.Option.{Option, none, some}
use Rattle.meaning.specs.Agreement.{Agree}
use Rattle.automaton.specs.declared.Automaton.{Automaton}
use Rattle.refusals.specs.declared.Code.{Code}
use Rattle.refusals.specs.declared.Refusal.{Refusal}
use Rattle.refusals.specs.declared.Refusal.TheVariants.{OtherAcceptance, Outside, Dimensions, Differ, Short, Propositions}
use Rattle.refusals.specs.Refused.{row, code_of}
use Rattle.acceptance.specs.Masks.{every_set}
use Rattle.automaton.specs.Value.{Valid}
use Rattle.automaton.specs.View.{view}
use Rattle.compare.specs.Compared.{Shown, Room, prefix_room, loop_room}
use Rattle.search_rule.specs.declared.Search.{Search}
use Rattle.search.specs.declared.Reply.{Reply}
use Rattle.search.specs.declared.Reply.TheVariants.{Taken, Finished}
use Rattle.search_rule.specs.Rule.{fresh, found}

-- the ranges of the fields: "a carried state with a field out of its range" gets 4
pub record InRange (s : Search) : Type 0 where
  pub reference : Valid s.reference
  pub best : Valid s.best
  pub n_le : s.n ≤ 8
  pub m_le : s.m ≤ 4

-- "Returned (number, a, b)": what an answer returns, or none where nothing is turned down
abbrev pub returned : {T : Type 0} → Result T Refusal → Option Code
returned (Ok reply) = none
returned (Err f) = some (code_of f)

-- the state for the next call: "a refused one changes nothing", nor does one after the end
abbrev pub next : Search → Result Reply Refusal → Search
next s (Ok (Taken t)) = t
next s (Ok Finished) = s
next s (Err f) = s

-- ---- the start

-- it is taken also where it is finished at the start: that stands in the state
pub data Started (a : Automaton) (r : Result Search Refusal) : Type 0 where
  outside : ¬ Valid a → r ≡ Err Outside → returned r ≡ some (row 4 0 0) → Started a r
  taken : Valid a → r ≡ Ok (fresh a) → returned r ≡ none → Started a r

-- ---- "none" and "unknown"

-- "A finished search, after 13 and 4, says so and no longer changes"; otherwise the rule gives the next state
pub data Told (s t : Search) (r : Result Reply Refusal) : Type 0 where
  outside : ¬ InRange s → r ≡ Err Outside → returned r ≡ some (row 4 0 0) → Told s t r
  finished : InRange s → s.finished ≡ true → r ≡ Ok Finished → returned r ≡ none → Told s t r
  taken : InRange s → s.finished ≡ false → r ≡ Ok (Taken t) → returned r ≡ none → Told s t r

-- ---- a found table

-- the table, told to a search that is not finished
pub record Admitted (s : Search) (table : Automaton) : Type 0 where
  pub in_range : InRange s
  pub valid : Valid table
  pub unfinished : s.finished ≡ false

-- "A found table must have n states and m sets"
pub record AskedFor (s : Search) (table : Automaton) : Type 0 where
  pub states : table.states ≡ s.n
  pub sets : table.sets ≡ s.m

-- "search and clause program use Inf of all"
abbrev pub InfOfAll : Automaton → Type 0
InfOfAll table = table.acceptance ≡ every_set table.sets

-- what becomes of a found table: the reply, and the buffers before and after
module _ (s : Search) (table : Automaton) (prefix prefix-after loop loop-after : List ℕ) (r : Result Reply Refusal) where
  -- a reply that leaves both buffers as they were, with what it returns
  abbrev pub Untouched : Result Reply Refusal → Option Code → Type 0
  Untouched x c = (r ≡ x) × (prefix-after ≡ prefix) × (loop-after ≡ loop) × (returned r ≡ c)

  -- 12, with the comparison's word in the buffers
  pub record Differs : Type 0 where
    pub comparison : Result (Unit {0}) Refusal
    pub shown : Shown table s.reference prefix prefix-after loop loop-after comparison
    pub says : r ≡ Err (Differ (length shown.x) (length shown.y))
    pub number : returned r ≡ some (row 12 (length shown.x) (length shown.y))

  -- "Order: 13 (prefix before loop), 4 for handed values", then "finished", 8 "with its own two counts", document 02's "a found table with another gets
  -- 3, 0, 0, after 8", and the comparison again: 14, 12. Each row's conditions shut out the other rows, so that one reply is due on each input.
  pub data Found : Type 0 where
    short_prefix : length prefix < prefix_room → Untouched (Err (Short prefix_room (length prefix))) (some (row 13 prefix_room (length prefix))) → Found
    short_loop : prefix_room ≤ length prefix → length loop < loop_room → Untouched (Err (Short loop_room (length loop))) (some (row 13 loop_room (length loop))) → Found
    outside : Room prefix loop → ¬ (InRange s × Valid table) → Untouched (Err Outside) (some (row 4 0 0)) → Found
    finished : Room prefix loop → InRange s → Valid table → s.finished ≡ true → Untouched (Ok Finished) none → Found
    dimensions : Room prefix loop → Admitted s table → ¬ AskedFor s table
        → Untouched (Err (Dimensions table.states table.sets)) (some (row 8 table.states table.sets)) → Found
    acceptance : Room prefix loop → Admitted s table → AskedFor s table → ¬ InfOfAll table → Untouched (Err OtherAcceptance) (some (row 3 0 0)) → Found
    letters : Room prefix loop → Admitted s table → AskedFor s table → InfOfAll table → table.propositions ≢ s.reference.propositions
        → Untouched (Err (Propositions table.propositions s.reference.propositions)) (some (row 14 table.propositions s.reference.propositions))
        → Found
    differ : Room prefix loop → Admitted s table → AskedFor s table → InfOfAll table → table.propositions ≡ s.reference.propositions
        → ¬ Agree (view table) (view s.reference) → Differs → Found
    taken : Room prefix loop → Admitted s table → AskedFor s table → InfOfAll table → table.propositions ≡ s.reference.propositions
        → Agree (view table) (view s.reference) → Untouched (Ok (Taken (found table s))) none → Found
