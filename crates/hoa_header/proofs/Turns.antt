-- Laws of one turn: which item stands there.
use mathlib.Core.Path.{◌≡◌, sym, ap, ◌∙◌}
use mathlib.Core.Bool.{Bool, true, false}
use mathlib.Core.List.{List}
use Prim.Native.Nat.{ℕ, ◌+◌, ◌≤◌, ◌<◌}
use native.Mathlib.Omega.{arith}
use lib.ListN.{length, get_or}
use lib.Seq.{slice, slice-cons}
use Rattle.refusals.specs.declared.Refusal.TheVariants.{Form}
use Rattle.automaton.specs.Bytes.{bytes}
use Rattle.hoa_text.specs.Basics.{same}
use Rattle.hoa_text.specs.Tokens.{Stream, between, left}
use Rattle.hoa_text.specs.Grammar.{Result, gives, Parsed, Turn, again, onward}
use Rattle.hoa_text.specs.Header.{Items, Header, once, states_item, start_item, names_item, sets_item, small, item_read}
use Rattle.std.specs.Prelude.{Result as Read, Ok, Err}
use Rattle.refusals.specs.declared.Refusal.{Refusal}
use Rattle.hoa_header.specs.declared.items.ItemRead.{ItemRead}
use Rattle.hoa_header.specs.declared.items.Items as Code
use Rattle.hoa_header.specs.Kept.{Reaches, ReadsStates, ReadsStart, ReadsAp, ReadsAcceptance, Skips, Turns, ReadsItem}

module _ (s : List ℕ) (o e : ℕ) (c : Code.Items) where
  -- a turn goes on as its item does
  as_item : (x : Parsed Items) (y : Result (Turn Items (Header × Stream))) → y ≡ onward x → (r : Read ItemRead Refusal) → Reaches s (e + 1) x r → Turns s e y r
  as_item x y q (Ok r) h = record { items = h.items; is = q ∙ ap onward h.is; keeps = h.keeps; from = omega (arith, h.from); to = h.to }
  as_item x y q (Err z) h = q ∙ ap onward h

  pub turn_states : same (bytes "States") (slice o e s) ≡ true → (r : Read ItemRead Refusal) → ReadsStates s o (e + 1) c r → ReadsItem s o e c r
  unfolding item_read
  turn_states p r g h k = as_item (once h.states o (states_item h (left s (e + 1)))) _ (rw p) r (g h k)

  module _ (no_states_given : same (bytes "States") (slice o e s) ≡ false) where
    pub turn_start : same (bytes "Start") (slice o e s) ≡ true → (r : Read ItemRead Refusal) → ReadsStart s o (e + 1) c r → ReadsItem s o e c r
    unfolding item_read
    turn_start p r g h k = as_item (once h.start o (start_item h (left s (e + 1)))) _ (rw (no_states_given, p)) r (g h k)

    module _ (no_start : same (bytes "Start") (slice o e s) ≡ false) where
      pub turn_names : same (bytes "AP") (slice o e s) ≡ true → (r : Read ItemRead Refusal) → ReadsAp s o (e + 1) c r → ReadsItem s o e c r
      unfolding item_read
      turn_names p r g h k = as_item (once h.names o (names_item h (left s (e + 1)))) _ (rw (no_states_given, no_start, p)) r (g h k)

      module _ (no_names : same (bytes "AP") (slice o e s) ≡ false) where
        pub turn_sets : same (bytes "Acceptance") (slice o e s) ≡ true → (r : Read ItemRead Refusal) → ReadsAcceptance s o (e + 1) c r → ReadsItem s o e c r
        unfolding item_read
        turn_sets p r g h k = as_item (once h.accepting o (sets_item h (left s (e + 1)))) _ (rw (no_states_given, no_start, no_names, p)) r (g h k)

        module _ (no_sets : same (bytes "Acceptance") (slice o e s) ≡ false) (longer : o < e) (inside : e + 1 ≤ length s) (b : Bool) (first : b ≡ between "a" "z" (get_or s o 0)) where
          is_small : small (slice o e s) ≡ b
          is_small = ap small (slice-cons o e s 0 longer (omega arith)) ∙ sym first

          pub turn_other : b ≡ false → ReadsItem s o e c (Err (Form o))
          unfolding item_read
          turn_other f h k = rw (no_states_given, no_start, no_names, no_sets, is_small ∙ f)

          pub turn_skipped : b ≡ true → (d : ℕ) → Skips s (e + 1) d → ReadsItem s o e c (Ok (record { items = c; end = d }))
          unfolding item_read
          turn_skipped f d g h k = record {
            items = h;
            is = rw (no_states_given, no_start, no_names, no_sets, is_small ∙ f) (ap (λ u. gives (again h u)) g.is);
            keeps = k;
            from = omega (arith, g.from);
            to = g.to;
          }
