-- What the comparison's answer makes of a found table.
use mathlib.Core.Path.{◌≡◌, ap, ◌∙◌}
use mathlib.Core.List.{List}
use Prim.Native.Nat.{ℕ}
use native.Mathlib.Decide.{ℕ_discrete}
use Rattle.std.specs.Prelude.{Result, false, length, ◌≤◌}
use Rattle.meaning.specs.Agreement.{Agree}
use Rattle.meaning.proofs.Decided.{decide_agree}
use Rattle.automaton.specs.declared.Automaton.{Automaton}
use Rattle.refusals.specs.declared.Refusal.{Refusal}
use Rattle.automaton.specs.Value.{Valid}
use Rattle.automaton.specs.View.{view}
use Rattle.automaton.specs.ViewLaws.{view_comparable}
use Rattle.compare.specs.Compared.{Compared, Room, prefix_room, loop_room}
use Rattle.search_rule.specs.declared.Search.{Search}
use Rattle.search.specs.declared.Reply.{Reply}
use Rattle.search.specs.Replies.{returned, InRange, Admitted, AskedFor, InfOfAll, Found, letters, differ, taken}
use Rattle.search.specs.Judged.{judged}

-- a table of the right size, with Inf of all sets, is answered by the comparison's promise
module _ {s : Search} {table : Automaton} {p q l m : List ℕ} {x : Result (Unit {0}) Refusal} {r : Result Reply Refusal} (room : Room p l) (j : Admitted s table) (a : AskedFor s table)
    (i : InfOfAll table) (k : Compared table s.reference p q l m x) (e : r ≡ judged s table x) where
  by_agreement : table.propositions ≡ s.reference.propositions → Dec (Agree (view table) (view s.reference)) → Found s table p q l m r
  by_agreement h (yes g) =
      let t = k.same room.prefix_room_fits room.loop_room_fits j.valid j.in_range.reference h g in
      let is = e ∙ ap (judged s table) t.0 in
      taken room j a i h g (is, t.1, t.2, ap returned is)
  by_agreement h (no g) =
      let w = k.differ room.prefix_room_fits room.loop_room_fits j.valid j.in_range.reference h g in
      let is = e ∙ ap (judged s table) w.says in
      differ room j a i h g (record { comparison = x; shown = w; says = is; number = ap returned is })

  by_letters : Dec (table.propositions ≡ s.reference.propositions) → Found s table p q l m r
  by_letters (yes h) = by_agreement h (decide_agree (view_comparable j.valid j.in_range.reference h))
  by_letters (no h) =
      let t = k.letters room.prefix_room_fits room.loop_room_fits j.valid j.in_range.reference h in
      let is = e ∙ ap (judged s table) t.0 in
      letters room j a i h (is, t.1, t.2, ap returned is)

  pub compared : Found s table p q l m r
  compared = by_letters (ℕ_discrete table.propositions s.reference.propositions)

-- the same, by what was asked before the comparison
pub found_judged : {s : Search} {table : Automaton} {p q l m : List ℕ} {x : Result (Unit {0}) Refusal} {r : Result Reply Refusal}
    → prefix_room ≤ length p → loop_room ≤ length l → InRange s → Valid table → s.finished ≡ false → AskedFor s table → InfOfAll table
    → Compared table s.reference p q l m x → r ≡ judged s table x → Found s table p q l m r
found_judged hp hl i v u a f k e =
    compared (record { prefix_room_fits = hp; loop_room_fits = hl }) (record { in_range = i; valid = v; unfinished = u }) a f k e
