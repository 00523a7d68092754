-- The test of the names: their lengths, their bytes, and that no two are alike.
use Rattle.std.specs.Prelude.{◌≡◌, ◌≢◌, ◌↔◌, Bool, true, false, not, ◌&&◌, List, ℕ, ◌+◌, ◌*◌, ◌/◌, ◌%◌, ◌≤◌, ◌<◌, length, get_or, leb, eqb}
use Rattle.std.proofs.Common.{sym, ap, ◌∙◌, subst, arith, lt-ltb, le-ltb, le-leb, eq-eqb, ne_eqb, leb-true, eqb-true, ext_get_or}
use Rattle.std.proofs.Math.Decide.{dec_lt}
use Rattle.std.proofs.lemmas.Bool.{eqb-false, not-true}
use Rattle.std.proofs.Math.Arith.{digits_div, digits_mod}
use Rattle.meaning.specs.TestLaws.{and_true, and_left, and_right, same_truth}
use Rattle.automaton.specs.Value.{NameByte}
use Rattle.automaton.specs.Rows.{place}
use Rattle.automaton.specs.Names.{slot, slot_length, slot_byte, printable_means, means_printable}
use Rattle.automaton.specs.Tests.{length_fits, lengths_fit, byte_fits, bytes_fit, alike, clash, apart}
use Rattle.automaton.specs.Passes.{passes_at, passes_of}

-- ---- lengths

module _ (k : ℕ) (lengths : List ℕ) where
  module _ (h : lengths_fit lengths k ≡ true) (i : ℕ) (g : i < 4) where
    used : i < k → (not (eqb (get_or lengths i 0) 0) && leb (get_or lengths i 0) 16) ≡ true
    used hi = rw (lt-ltb _ _ hi) at (passes_at 4 (λ j. length_fits k j (get_or lengths j 0)) h i g)

    pub length_some : i < k → 1 ≤ get_or lengths i 0
    length_some hi =
        let e : get_or lengths i 0 ≢ 0 = eqb-false _ _ (not-true _ (and_left (not (eqb (get_or lengths i 0) 0)) (leb (get_or lengths i 0) 16) (used hi))) in
        omega arith

    pub length_le : i < k → get_or lengths i 0 ≤ 16
    length_le hi = leb-true _ _ (and_right (not (eqb (get_or lengths i 0) 0)) (leb (get_or lengths i 0) 16) (used hi))

    pub length_zero : k ≤ i → get_or lengths i 0 ≡ 0
    length_zero hi = eqb-true _ _ (rw (le-ltb _ _ hi) at (passes_at 4 (λ j. length_fits k j (get_or lengths j 0)) h i g))

  pub lengths_of : ((i : ℕ) → i < k → 1 ≤ get_or lengths i 0) → ((i : ℕ) → i < k → get_or lengths i 0 ≤ 16) → ((i : ℕ) → i < 4 → k ≤ i → get_or lengths i 0 ≡ 0) → lengths_fit lengths k ≡ true
  lengths_of some most none = passes_of 4 _ (λ i g. go i g (dec_lt i k))
    where
      go : (i : ℕ) → i < 4 → Dec (i < k) → length_fits k i (get_or lengths i 0) ≡ true
      go i g (yes hi) =
          let e : get_or lengths i 0 ≢ 0 = omega (arith, some i hi) in
          rw (lt-ltb _ _ hi) (and_true (ap not (ne_eqb _ _ e)) (le-leb _ _ (most i hi)))
      go i g (no hi) = let u : k ≤ i = omega arith in rw (le-ltb _ _ u) (eq-eqb _ _ (none i g u))

-- ---- bytes

module _ (names lengths : List ℕ) where
  module _ (h : bytes_fit names lengths ≡ true) (i j : ℕ) (hi : i < 4) (hj : j < 16) where
    here : byte_fits (i * 16 + j) (get_or names (i * 16 + j) 0) (get_or lengths i 0) ≡ true
    here =
        subst (λ k. byte_fits (i * 16 + j) (get_or names (i * 16 + j) 0) (get_or lengths k 0) ≡ true) (digits_div i hj)
        (passes_at 64 (λ k. byte_fits k (get_or names k 0) (get_or lengths (k / 16) 0)) h (i * 16 + j) (omega arith))

    pub byte_means : j < get_or lengths i 0 → NameByte (get_or names (i * 16 + j) 0)
    byte_means g = let f : (i * 16 + j) % 16 < get_or lengths i 0 = rw (digits_mod i hj) g in printable_means _ (rw (lt-ltb _ _ f) at here)

    pub byte_zero : get_or lengths i 0 ≤ j → get_or names (i * 16 + j) 0 ≡ 0
    byte_zero g = let f : get_or lengths i 0 ≤ (i * 16 + j) % 16 = rw (digits_mod i hj) g in eqb-true _ _ (rw (le-ltb _ _ f) at here)

  pub bytes_of : ((i j : ℕ) → i < 4 → j < 16 → j < get_or lengths i 0 → NameByte (get_or names (i * 16 + j) 0))
      → ((i j : ℕ) → i < 4 → j < 16 → get_or lengths i 0 ≤ j → get_or names (i * 16 + j) 0 ≡ 0) → bytes_fit names lengths ≡ true
  bytes_of means zero = passes_of 64 _ (λ k h. go k h (dec_lt (k % 16) (get_or lengths (k / 16) 0)))
    where
      go : (k : ℕ) → k < 64 → Dec (k % 16 < get_or lengths (k / 16) 0) → byte_fits k (get_or names k 0) (get_or lengths (k / 16) 0) ≡ true
      go k h (yes g) = rw (lt-ltb _ _ g) (means_printable _ (subst (λ x. NameByte (get_or names x 0)) (place k) (means (k / 16) (k % 16) (omega arith) (omega arith) g)))
      go k h (no g) =
          let f : get_or lengths (k / 16) 0 ≤ k % 16 = omega arith in
          rw (le-ltb _ _ f) (eq-eqb _ _ (subst (λ x. get_or names x 0 ≡ 0) (place k) (zero (k / 16) (k % 16) (omega arith) (omega arith) f)))

-- ---- no two alike

module _ (names : List ℕ) where
  alike_at : (i j : ℕ) → alike names i j ≡ true → (b : ℕ) → b < 16 → get_or names (i * 16 + b) 0 ≡ get_or names (j * 16 + b) 0
  alike_at i j h b g = eqb-true _ _ (passes_at 16 (λ b. eqb (get_or names (i * 16 + b) 0) (get_or names (j * 16 + b) 0)) h b g)

  alike_of : (i j : ℕ) → ((b : ℕ) → b < 16 → get_or names (i * 16 + b) 0 ≡ get_or names (j * 16 + b) 0) → alike names i j ≡ true
  alike_of i j h = passes_of 16 _ (λ b g. eq-eqb _ _ (h b g))

  -- the test of two whole slots
  pub alike_slots : {r : Bool} → length names ≡ 64 → (i j : ℕ) → i < 4 → j < 4 → (r ≡ true) ↔ (slot names i 16 ≡ slot names j 16) → r ≡ alike names i j
  alike_slots size i j hi hj e = same_truth _ _
      (λ t. alike_of i j (λ b h. sym (slot_byte names i 16 b h) ∙ ap (λ s. get_or s b 0) (e.0 t) ∙ slot_byte names j 16 b h))
      (λ t. e.1 (ext_get_or 0 (slot names i 16) (slot names j 16) (whole i hi ∙ sym (whole j hj))
      (λ b h. let g : b < 16 = omega (arith, whole i hi) in slot_byte names i 16 b g ∙ alike_at i j t b g ∙ sym (slot_byte names j 16 b g))))
    where
      whole : (i : ℕ) → i < 4 → length (slot names i 16) ≡ 16
      whole i h = slot_length names size i 16 h (omega arith)

  pub apart_at : (k i j : ℕ) → apart names k ≡ true → i < j → j < k → j < 4 → alike names i j ≡ false
  apart_at k i j h hij hjk hj =
      let e : (i * 4 + j) / 4 ≡ i = omega arith in
      let f : (i * 4 + j) % 4 ≡ j = omega arith in
      let t : not (clash names k i j) ≡ true = rw (e, f) at (passes_at 16 (λ p. not (clash names k (p / 4) (p % 4))) h (i * 4 + j) (omega arith)) in
      rw (lt-ltb _ _ hij, lt-ltb _ _ hjk) at (not-true (clash names k i j) t)

  pub apart_of : (k : ℕ) → ((i j : ℕ) → i < j → j < k → j < 4 → alike names i j ≡ false) → apart names k ≡ true
  apart_of k h = passes_of 16 _ (λ p g. go (p / 4) (p % 4) (omega arith) (dec_lt (p / 4) (p % 4)) (dec_lt (p % 4) k))
    where
      go : (i j : ℕ) → j < 4 → Dec (i < j) → Dec (j < k) → not (clash names k i j) ≡ true
      go i j g (yes a) (yes b) = rw (lt-ltb _ _ a, lt-ltb _ _ b) (ap not (h i j a b g))
      go i j g (yes a) (no b) = let c : k ≤ j = omega arith in rw (lt-ltb _ _ a, le-ltb _ _ c)
      go i j g (no a) d = let c : j ≤ i = omega arith in rw (le-ltb _ _ c)

  module _ (size : length names ≡ 64) where
    module _ (i j m n : ℕ) (hi : i < 4) (hj : j < 4) (hm : m ≤ 16) (hn : n ≤ 16)
        (zero-i : (b : ℕ) → b < 16 → m ≤ b → get_or names (i * 16 + b) 0 ≡ 0) (zero-j : (b : ℕ) → b < 16 → n ≤ b → get_or names (j * 16 + b) 0 ≡ 0) where
      pub equal_alike : slot names i m ≡ slot names j n → alike names i j ≡ true
      equal_alike e = alike_of i j (λ b h. go b h (dec_lt b m))
        where
          same : m ≡ n
          same = sym (slot_length names size i m hi hm) ∙ ap length e ∙ slot_length names size j n hj hn

          go : (b : ℕ) → b < 16 → Dec (b < m) → get_or names (i * 16 + b) 0 ≡ get_or names (j * 16 + b) 0
          go b h (yes g) = sym (slot_byte names i m b g) ∙ ap (λ s. get_or s b 0) e ∙ slot_byte names j n b (omega (arith, same))
          go b h (no g) = zero-i b h (omega arith) ∙ sym (zero-j b h (omega (arith, same)))

      pub alike_equal : ((b : ℕ) → b < m → get_or names (i * 16 + b) 0 ≢ 0) → ((b : ℕ) → b < n → get_or names (j * 16 + b) 0 ≢ 0) → alike names i j ≡ true → slot names i m ≡ slot names j n
      alike_equal some-i some-j h = go (dec_lt m n) (dec_lt n m)
        where
          go : Dec (m < n) → Dec (n < m) → slot names i m ≡ slot names j n
          go (yes g) d = absurd (some-j m g (sym (alike_at i j h m (omega arith)) ∙ zero-i m (omega arith) (omega arith)))
          go (no f) (yes g) = absurd (some-i n g (alike_at i j h n (omega arith) ∙ zero-j n (omega arith) (omega arith)))
          go (no f) (no g) =
              let e : m ≡ n = omega arith in
              ext_get_or 0 (slot names i m) (slot names j n) (slot_length names size i m hi hm ∙ e ∙ sym (slot_length names size j n hj hn))
              (λ b k.
              let a : b < m = subst (λ x. b < x) (slot_length names size i m hi hm) k in
              slot_byte names i m b a ∙ alike_at i j h b (omega arith) ∙ sym (slot_byte names j n b (omega (arith, e))))
