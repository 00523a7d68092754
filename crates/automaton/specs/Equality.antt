-- EQUAL AUTOMATA ARE EQUAL VALUES: two values in "The automaton" with the same counts, acceptance, names, transitions and marks are one.
use Rattle.std.specs.Prelude.{◌≡◌, ◌⊎◌, ℕ, ◌^◌, ◌≤◌, ◌<◌, length, get_or}
use Rattle.std.proofs.Common.{sym, ap, ◌∙◌, subst, inl, inr, arith, ext_get_or}
use Rattle.std.proofs.Math.Decide.{dec_lt}
use Rattle.meaning.specs.BitSetLaws.{has_same}
use Rattle.automaton.specs.declared.Automaton.{Automaton}
use Rattle.automaton.specs.Value.{Valid, letters, destination, mark_set, name, name_length, name_byte}
use Rattle.automaton.specs.View.{view}
use Rattle.automaton.specs.Names.{slot_length, slot_byte}
use Rattle.automaton.specs.Rows.{rows_equal}

-- the same view, as far as there are states, letters and sets, and the same names
pub record Same (a b : Automaton) : Type 0 where
  pub states : a.states ≡ b.states
  pub start : a.start ≡ b.start
  pub propositions : a.propositions ≡ b.propositions
  pub sets : a.sets ≡ b.sets
  pub acceptance : a.acceptance ≡ b.acceptance
  pub steps : (q l : ℕ) → q < a.states → l < letters a → (view a).step q l ≡ (view b).step q l
  pub marks : (q l i : ℕ) → q < a.states → l < letters a → i < a.sets → (view a).marks q l i ≡ (view b).marks q l i
  pub names : (i : ℕ) → i < a.propositions → name a i ≡ name b i

module _ {a b : Automaton} (v : Valid a) (w : Valid b) (s : Same a b) where
  same_letters : letters a ≡ letters b
  same_letters = ap (λ k. 2 ^ k) s.propositions

  unused : (q l : ℕ) → (a.states ≤ q) ⊎ (letters a ≤ l) → (b.states ≤ q) ⊎ (letters b ≤ l)
  unused q l (inl h) = inl (subst (λ n. n ≤ q) s.states h)
  unused q l (inr h) = inr (subst (λ n. n ≤ l) same_letters h)

  -- an entry of two tables: the same in use, 0 elsewhere
  entry : (f g : ℕ → ℕ → ℕ) → ((q l : ℕ) → q < a.states → l < letters a → f q l ≡ g q l)
      → ((q l : ℕ) → q < 16 → l < 16 → (a.states ≤ q) ⊎ (letters a ≤ l) → f q l ≡ 0)
      → ((q l : ℕ) → q < 16 → l < 16 → (b.states ≤ q) ⊎ (letters b ≤ l) → g q l ≡ 0)
      → (q l : ℕ) → q < 16 → l < 16 → f q l ≡ g q l
  entry f g here zero-f zero-g q l hq hl = go (dec_lt q a.states) (dec_lt l (letters a))
    where
      away : (a.states ≤ q) ⊎ (letters a ≤ l) → f q l ≡ g q l
      away u = zero-f q l hq hl u ∙ sym (zero-g q l hq hl (unused q l u))

      go : Dec (q < a.states) → Dec (l < letters a) → f q l ≡ g q l
      go (yes p) (yes r) = here q l p r
      go (yes p) (no r) = away (inr (omega arith))
      go (no p) d = away (inl (omega arith))

  same_destinations : a.destinations ≡ b.destinations
  same_destinations =
      rows_equal a.destinations b.destinations 16 v.destinations_size w.destinations_size
      (entry (destination a) (destination b) s.steps v.no_destination w.no_destination)

  same_marks : a.marks ≡ b.marks
  same_marks = rows_equal a.marks b.marks 16 v.marks_size w.marks_size (entry (mark_set a) (mark_set b) equal v.no_marks w.no_marks)
    where
      equal : (q l : ℕ) → q < a.states → l < letters a → mark_set a q l ≡ mark_set b q l
      equal q l hq hl =
          has_same a.sets (mark_set a q l) (mark_set b q l) (v.marks_lt q l hq hl)
          (subst (λ m. mark_set b q l < 2 ^ m) (sym s.sets) (w.marks_lt q l (subst (λ n. q < n) s.states hq) (subst (λ n. l < n) same_letters hl))) (λ i. s.marks q l i hq hl)

  name_length_lem : (i : ℕ) → i < a.propositions → name_length a i ≡ name_length b i
  name_length_lem i hi =
      let hb : i < b.propositions = subst (λ k. i < k) s.propositions hi in
      sym (slot_length a.names v.names_size i (name_length a i) (omega (arith, v.propositions_le)) (v.name_le i hi))
      ∙ ap length (s.names i hi) ∙ slot_length b.names w.names_size i (name_length b i) (omega (arith, w.propositions_le)) (w.name_le i hb)

  lengths_at : (i : ℕ) → i < 4 → name_length a i ≡ name_length b i
  lengths_at i h = go (dec_lt i a.propositions)
    where
      go : Dec (i < a.propositions) → name_length a i ≡ name_length b i
      go (yes hi) = name_length_lem i hi
      go (no hi) = v.no_length i h (omega arith) ∙ sym (w.no_length i h (omega (arith, s.propositions)))

  bytes_at : (i j : ℕ) → i < 4 → j < 16 → name_byte a i j ≡ name_byte b i j
  bytes_at i j h g = go (dec_lt j (name_length a i)) (dec_lt i a.propositions)
    where
      zero : name_length a i ≤ j → name_byte a i j ≡ name_byte b i j
      zero u = v.no_byte i j h g u ∙ sym (w.no_byte i j h g (subst (λ n. n ≤ j) (lengths_at i h) u))

      go : Dec (j < name_length a i) → Dec (i < a.propositions) → name_byte a i j ≡ name_byte b i j
      go (yes f) (yes hi) =
          sym (slot_byte a.names i (name_length a i) j f) ∙ ap (λ t. get_or t j 0) (s.names i hi)
          ∙ slot_byte b.names i (name_length b i) j (subst (λ n. j < n) (lengths_at i h) f)
      go (yes f) (no hi) = zero (omega (arith, v.no_length i h (omega arith)))
      go (no f) d = zero (omega arith)

  pub equal_values : a ≡ b
  equal_values =
      let lengths : a.lengths ≡ b.lengths = ext_get_or 0 a.lengths b.lengths (v.lengths_size ∙ sym w.lengths_size) (λ i h. lengths_at i (omega (arith, v.lengths_size))) in
      let names : a.names ≡ b.names = rows_equal a.names b.names 4 v.names_size w.names_size bytes_at in
      λ i. record {
        states = s.states i;
        start = s.start i;
        propositions = s.propositions i;
        sets = s.sets i;
        acceptance = s.acceptance i;
        lengths = lengths i;
        names = names i;
        destinations = same_destinations i;
        marks = same_marks i;
      }
