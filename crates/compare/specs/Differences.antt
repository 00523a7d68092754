-- The words that the search looks for are those on which the two automata differ.
use Rattle.std.specs.Prelude.{◌≡◌, ◌≢◌, ◌⊎◌, List, [], ◌∷◌, ℕ, ◌+◌, ◌*◌, ◌/◌, ◌%◌, ◌^◌, ◌≤◌, ◌<◌}
use Rattle.std.proofs.Common.{sym, ap, ◌∙◌, inl, inr, true≢false, arith, pow_pos}
use Rattle.std.proofs.Math.Path.{ap₂}
use Rattle.std.proofs.Math.Decide.{dec_lt}
use Rattle.std.proofs.lemmas.Nat.{or_lt}
use Rattle.meaning.specs.BitSet.{has}
use Rattle.meaning.specs.MarkSets.{set_of_same, set_of_has}
use Rattle.meaning.specs.Automata.{Aut}
use Rattle.meaning.specs.Agreement.{Comparable, Over}
use Rattle.meaning.specs.Run.{after, seen, run_lt}
use Rattle.meaning.specs.ClosedLoop.{verdict, Closed}
use Rattle.meaning.specs.Decision.{CycleAgrees, Difference, classify, over_A, over_B}
use Rattle.automaton.specs.declared.Automaton.{Automaton}
use Rattle.automaton.specs.Value.{Valid, letters, destination, mark_set}
use Rattle.automaton.specs.View.{view}
use Rattle.automaton.specs.ViewLaws.{view_comparable}
use Rattle.bits.specs.Powers.{power_le}
use Rattle.compare_tables.specs.Tables.{entry, InRange, Below}
use Rattle.compare_shortest.specs.Difference.{met, Shows}
use Rattle.compare_shortest.specs.Met.{met_has}
use Rattle.compare.specs.Verdicts.{Judged, unlike, unlike_zero, zero_unlike}

-- ---- the tables of a value in "The automaton"

-- below c in use and 0 elsewhere
below_16 : (n L c : ℕ) (xs : List ℕ) → c ≤ 16 → ((q l : ℕ) → q < n → l < L → entry xs q l < c)
    → ((q l : ℕ) → q < 16 → l < 16 → (n ≤ q) ⊎ (L ≤ l) → entry xs q l ≡ 0) → Below 16 xs
below_16 n L c xs hc below zero q l hq hl = go (dec_lt q n) (dec_lt l L)
  where
    unused : (n ≤ q) ⊎ (L ≤ l) → entry xs q l < 16
    unused u = omega (arith, zero q l hq hl u)

    go : Dec (q < n) → Dec (l < L) → entry xs q l < 16
    go (yes p) (yes r) = omega (arith, below q l p r)
    go (yes p) (no r) = unused (inr (omega arith))
    go (no p) d = unused (inl (omega arith))

pub in_range : {a : Automaton} → Valid a → InRange a.destinations a.marks a.start
in_range {a} v = record {
  next_lt = below_16 a.states (letters a) a.states a.destinations v.states_le v.destination_lt v.no_destination;
  marks_lt = below_16 a.states (letters a) (2 ^ a.sets) a.marks (power_le v.sets_le) v.marks_lt v.no_marks;
  start_lt = omega (arith, v.start_lt, v.states_le);
}

module _ {a : Automaton} (v : Valid a) where
  -- the sets met from a state of the automaton are its own
  met_below : (w : List ℕ) (q : ℕ) → q < a.states → Over (letters a) w → met a.destinations a.marks q w < 2 ^ a.sets
  met_below [] q h o = pow_pos a.sets
  met_below (l ∷ w) q h o =
      or_lt a.sets (mark_set a q l) (met a.destinations a.marks (destination a q l) w) (v.marks_lt q l h o.0)
      (met_below w (destination a q l) (v.destination_lt q l h o.0) o.1)

  -- and what the acceptance says of them is the verdict
  met_verdict : (x y : List ℕ) → after (view a) x < a.states → Over (letters a) y
      → has a.acceptance (met a.destinations a.marks (after (view a) x) y) ≡ verdict (view a) x y
  met_verdict x y h o =
      let q = after (view a) x in
      let K = met a.destinations a.marks q y in
      ap (has a.acceptance)
      (sym (set_of_has a.sets K (met_below y q h o)) ∙ set_of_same a.sets (has K) (seen (view a) q y) (λ i g. met_has a.destinations a.marks i y q))

-- ---- two values in "The automaton" over the same letters, and where their acceptances differ
pub record Pair (a b : Automaton) (H : List ℕ) : Type 0 where
  pub valid_a : Valid a
  pub valid_b : Valid b
  pub same_propositions : a.propositions ≡ b.propositions
  pub judged : Judged a.acceptance b.acceptance H

-- the words that the search looks for
abbrev pub Shown : Automaton → Automaton → List ℕ → List ℕ → List ℕ → Type 0
Shown a b H = Shows a.destinations a.marks b.destinations b.marks H (letters a) a.start b.start

module _ {a b : Automaton} {H : List ℕ} (T : Pair a b H) where
  abbrev A : Aut
  A = view a

  abbrev B : Aut
  B = view b

  pub comparable : Comparable (view a) (view b)
  comparable = view_comparable T.valid_a T.valid_b T.same_propositions

  module _ (x : List ℕ) (ox : Over (letters a) x) (y : List ℕ) (oy : Over (letters a) y) where
    met_A : ℕ
    met_A = met a.destinations a.marks (after A x) y

    met_B : ℕ
    met_B = met b.destinations b.marks (after B x) y

    state_A : after A x < a.states
    state_A = run_lt comparable.formed_A a.start x T.valid_a.start_lt ox

    state_B : after B x < b.states
    state_B = run_lt comparable.formed_B b.start x T.valid_b.start_lt (over_B comparable x ox)

    lt_A : met_A < 16
    unfolding met_A
    lt_A = omega (arith, met_below T.valid_a y (after A x) state_A oy, power_le T.valid_a.sets_le)

    lt_B : met_B < 16
    unfolding met_B
    lt_B = omega (arith, met_below T.valid_b y (after B x) state_B (over_B comparable y oy), power_le T.valid_b.sets_le)

    verdict_A : has a.acceptance met_A ≡ verdict A x y
    unfolding met_A
    verdict_A = met_verdict T.valid_a x y state_A oy

    verdict_B : has b.acceptance met_B ≡ verdict B x y
    unfolding met_B
    verdict_B = met_verdict T.valid_b x y state_B (over_B comparable y oy)

    -- the entry for what both meet along y tells whether their verdicts differ
    hit_entry : entry H (met a.destinations a.marks (after A x) y) (met b.destinations b.marks (after B x) y) ≡ unlike (verdict A x y) (verdict B x y)
    unfolding met_A met_B
    hit_entry =
        let ea : (met_A * 16 + met_B) / 16 ≡ met_A = omega (arith, lt_B) in
        let eb : (met_A * 16 + met_B) % 16 ≡ met_B = omega (arith, lt_B) in
        T.judged.entries (met_A * 16 + met_B) (omega (arith, lt_A, lt_B))
        ∙ ap₂ unlike (ap (has a.acceptance) ea ∙ verdict_A) (ap (has b.acceptance) eb ∙ verdict_B)

  pub shown_difference : (x y : List ℕ) → Shown a b H x y → Difference (view a) (view b) x y
  shown_difference x y S = go (classify comparable x S.over_x y S.over_y)
    where
      go : CycleAgrees A B x y ⊎ Difference A B x y → Difference A B x y
      go (inl f) = absurd (S.hit (hit_entry x S.over_x y S.over_y ∙ zero_unlike (verdict A x y) (verdict B x y) (f S.some S.closed_A S.closed_B)))
      go (inr d) = d

  shown : (x y : List ℕ) → Over (letters a) x → Over (letters a) y → y ≢ [] → Closed A x y → Closed B x y → verdict A x y ≢ verdict B x y → Shown a b H x y
  shown x y ox oy ne ca cb v = record {
    over_x = ox;
    over_y = oy;
    some = ne;
    closed_A = ca;
    closed_B = cb;
    hit = λ z. v (unlike_zero (verdict A x y) (verdict B x y) (sym (hit_entry x ox y oy) ∙ z));
  }

  pub difference_shown : (x y : List ℕ) → Difference (view a) (view b) x y → Shown a b H x y
  difference_shown x y (inl E) = shown x y E.over_x E.over_y E.some E.closed_A E.closed_B (λ e. true≢false (sym E.yes_A ∙ e ∙ E.no_B))
  difference_shown x y (inr E) =
      shown x y (over_A comparable x E.over_x) (over_A comparable y E.over_y) E.some E.closed_B E.closed_A (λ e. true≢false (sym E.yes_A ∙ sym e ∙ E.no_B))
