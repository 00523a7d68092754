-- THE TEST OF A VALUE: it passes if and only if the value lies in "The automaton".
use Rattle.std.specs.Prelude.{◌≡◌, refl, true, false, ◌&&◌, ◌≢◌, ◌⊎◌, ltb, length}
use Rattle.std.proofs.Common.{sym, ◌∙◌, true≢false, inl, inr, arith}
use Rattle.std.proofs.Math.Path.{subst, subst₂}
use Prim.Native.Nat.{ℕ, ◌^◌, ◌≤◌, ◌<◌, min}
use Rattle.std.proofs.Math.Decide.{dec_lt}
use borrow.Author.Tests.{le-leb, lt-ltb, leb-true, ltb-true}
use Rattle.std.proofs.Math.Dec.{leb}
use Rattle.meaning.specs.TestLaws.{and_true, and_left, and_right, truth}
use Rattle.acceptance.specs.Masks.{OwnSets, own_sets}
use Rattle.acceptance.specs.Laws.{own_means}
use Rattle.automaton.specs.declared.Automaton.{Automaton}
use Rattle.automaton.specs.Value.{Valid, letters, name_length, name_byte}
use Rattle.bits.specs.Powers.{power_is, power_le}
use Rattle.automaton.specs.Tests.{counts_fit, filled, tables_fit, lengths_fit, bytes_fit, alike, apart, named, fits}
use Rattle.automaton.specs.TableTest.{filled_below, filled_zero, filled_of}
use Rattle.automaton.specs.NameTest.{length_some, length_le, length_zero, lengths_of, byte_means, byte_zero, bytes_of, apart_at, apart_of, equal_alike, alike_equal}

module _ (a : Automaton) where
  -- the parts of the test, each as it stands in `fits`
  record Passed : Type 0 where
    states_le : a.states ≤ 16
    start_lt : a.start < a.states
    propositions_le : a.propositions ≤ 4
    sets_le : a.sets ≤ 4
    sets_owned : OwnSets a.acceptance a.sets
    destinations : filled a.states (letters a) a.states a.destinations ≡ true
    marks : filled a.states (letters a) (2 ^ a.sets) a.marks ≡ true
    lengths : lengths_fit a.lengths a.propositions ≡ true
    bytes : bytes_fit a.names a.lengths ≡ true
    pairs : apart a.names a.propositions ≡ true

  passed : fits a ≡ true → Passed
  unfolding fits
  passed h =
      let N = named a.names a.lengths a.propositions in
      let A = own_sets a.acceptance a.sets in
      let counts = and_left (counts_fit a.states a.start a.propositions a.sets) (A && (tables_fit a && N)) h in
      let others = and_right (counts_fit a.states a.start a.propositions a.sets) (A && (tables_fit a && N)) h in
      let rest = and_right A (tables_fit a && N) others in
      let tables = and_left (tables_fit a) N rest in
      let names = and_right (tables_fit a) N rest in
      let c₁ = and_right (leb a.states 16) (ltb a.start a.states && (leb a.propositions 4 && leb a.sets 4)) counts in
      let c₂ = and_right (ltb a.start a.states) (leb a.propositions 4 && leb a.sets 4) c₁ in
      let k : a.propositions ≤ 4 = leb-true _ _ (and_left (leb a.propositions 4) (leb a.sets 4) c₂) in
      let m : a.sets ≤ 4 = leb-true _ _ (and_right (leb a.propositions 4) (leb a.sets 4) c₂) in
      let D = filled a.states (2 ^ min a.propositions 4) a.states a.destinations in
      let M = filled a.states (2 ^ min a.propositions 4) (2 ^ min a.sets 4) a.marks in
      let n₁ = and_right (lengths_fit a.lengths a.propositions) (bytes_fit a.names a.lengths && apart a.names a.propositions) names in
      record {
        states_le = leb-true _ _ (and_left (leb a.states 16) (ltb a.start a.states && (leb a.propositions 4 && leb a.sets 4)) counts);
        start_lt = ltb-true _ _ (and_left (ltb a.start a.states) (leb a.propositions 4 && leb a.sets 4) c₁);
        propositions_le = k;
        sets_le = m;
        sets_owned = (own_means m a.acceptance).0 (and_left A (tables_fit a && N) others);
        destinations = subst (λ L. filled a.states L a.states a.destinations ≡ true) (power_is k refl) (and_left D M tables);
        marks = subst₂ (λ L c. filled a.states L c a.marks ≡ true) (power_is k refl) (power_is m refl) (and_right D M tables);
        lengths = and_left (lengths_fit a.lengths a.propositions) (bytes_fit a.names a.lengths && apart a.names a.propositions) names;
        bytes = and_left (bytes_fit a.names a.lengths) (apart a.names a.propositions) n₁;
        pairs = and_right (bytes_fit a.names a.lengths) (apart a.names a.propositions) n₁;
      }

  passing : Passed → fits a ≡ true
  unfolding fits
  passing P = and_true
      (and_true (le-leb _ _ P.states_le) (and_true (lt-ltb _ _ P.start_lt) (and_true (le-leb _ _ P.propositions_le) (le-leb _ _ P.sets_le))))
      (and_true ((own_means P.sets_le a.acceptance).1 P.sets_owned) (and_true (and_true
      (subst (λ L. filled a.states L a.states a.destinations ≡ true) (sym (power_is P.propositions_le refl)) P.destinations)
      (subst₂ (λ L c. filled a.states L c a.marks ≡ true) (sym (power_is P.propositions_le refl)) (sym (power_is P.sets_le refl)) P.marks))
      (and_true P.lengths (and_true P.bytes P.pairs))))

  pub fits_valid : length a.lengths ≡ 4 → length a.names ≡ 64 → length a.destinations ≡ 256 → length a.marks ≡ 256 → fits a ≡ true → Valid a
  fits_valid size-l size-n size-d size-m h = record {
    states_le = P.states_le;
    start_lt = P.start_lt;
    propositions_le = P.propositions_le;
    sets_le = P.sets_le;
    sets_owned = P.sets_owned;
    destination_lt = filled_below a.states (letters a) a.states a.destinations P.destinations P.states_le most;
    marks_lt = filled_below a.states (letters a) (2 ^ a.sets) a.marks P.marks P.states_le most;
    name_some = λ i hi. length_some a.propositions a.lengths P.lengths i (omega (arith, P.propositions_le)) hi;
    name_le = name_le;
    name_bytes = λ i j hi hj. byte_means a.names a.lengths P.bytes i j (omega (arith, P.propositions_le)) (omega (arith, name_le i hi)) hj;
    no_two_alike = λ i j hij hj e. true≢false (
        sym (equal_alike a.names size-n i j (name_length a i) (name_length a j) (omega (arith, P.propositions_le)) (omega (arith, P.propositions_le))
        (name_le i (omega arith)) (name_le j hj) (λ b hb z. byte_zero a.names a.lengths P.bytes i b (omega (arith, P.propositions_le)) hb z)
        (λ b hb z. byte_zero a.names a.lengths P.bytes j b (omega (arith, P.propositions_le)) hb z) e)
        ∙ apart_at a.names a.propositions i j P.pairs hij hj (omega (arith, P.propositions_le)));
    no_destination = filled_zero a.states (letters a) a.states a.destinations P.destinations;
    no_marks = filled_zero a.states (letters a) (2 ^ a.sets) a.marks P.marks;
    no_length = length_zero a.propositions a.lengths P.lengths;
    no_byte = byte_zero a.names a.lengths P.bytes;
    lengths_size = size-l;
    names_size = size-n;
    destinations_size = size-d;
    marks_size = size-m;
  }
    where
      P : Passed
      P = passed h

      most : letters a ≤ 16
      most = power_le P.propositions_le

      name_le : (i : ℕ) → i < a.propositions → name_length a i ≤ 16
      name_le i hi = length_le a.propositions a.lengths P.lengths i (omega (arith, P.propositions_le)) hi

  pub valid_fits : Valid a → fits a ≡ true
  valid_fits v = passing (record {
    states_le = v.states_le;
    start_lt = v.start_lt;
    propositions_le = v.propositions_le;
    sets_le = v.sets_le;
    sets_owned = v.sets_owned;
    destinations = filled_of a.states (letters a) a.states a.destinations v.destination_lt v.no_destination;
    marks = filled_of a.states (letters a) (2 ^ a.sets) a.marks v.marks_lt v.no_marks;
    lengths = lengths_of a.propositions a.lengths v.name_some v.name_le v.no_length;
    bytes = bytes_of a.names a.lengths (λ i j hi hj g. v.name_bytes i j (in_use i hi j g) g) v.no_byte;
    pairs = apart_of a.names a.propositions (λ i j hij hj g. distinct i j hij hj (truth (alike a.names i j)));
  })
    where
      in_use : (i : ℕ) → i < 4 → (j : ℕ) → j < name_length a i → i < a.propositions
      in_use i hi j g = go (dec_lt i a.propositions)
        where
          go : Dec (i < a.propositions) → i < a.propositions
          go (yes h) = h
          go (no h) = absurd (omega (arith, v.no_length i hi (omega arith)))

      some : (i : ℕ) → i < a.propositions → (b : ℕ) → b < name_length a i → name_byte a i b ≢ 0
      some i hi b g e = absurd (omega (arith, (v.name_bytes i b hi g).from_32, e))

      distinct : (i j : ℕ) → i < j → j < a.propositions → (alike a.names i j ≡ true) ⊎ (alike a.names i j ≡ false) → alike a.names i j ≡ false
      distinct i j hij hj (inr e) = e
      distinct i j hij hj (inl e) = absurd (v.no_two_alike i j hij hj
          (alike_equal a.names v.names_size i j (name_length a i) (name_length a j) (omega (arith, v.propositions_le)) (omega (arith, v.propositions_le))
          (v.name_le i (omega arith)) (v.name_le j hj) (λ b hb z. v.no_byte i b (omega (arith, v.propositions_le)) hb z) (λ b hb z. v.no_byte j b (omega (arith, v.propositions_le)) hb z) (some i (omega arith)) (some j hj) e))
