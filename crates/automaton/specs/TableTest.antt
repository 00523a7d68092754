-- The test of a table, by state and letter.
use Rattle.std.specs.Prelude.{◌≡◌, ◌⊎◌, true, List, ℕ, ◌+◌, ◌*◌, ◌/◌, ◌%◌, ◌≤◌, ◌<◌, get_or}
use Rattle.std.proofs.Common.{subst, inl, inr, arith, lt-ltb, le-ltb, eq-eqb, ltb-true, eqb-true}
use Rattle.std.proofs.Math.Decide.{dec_lt}
use Rattle.std.proofs.Math.Arith.{digits_div, digits_mod}
use Rattle.automaton.specs.Rows.{place}
use Rattle.automaton.specs.Tests.{entry_fits, filled}
use Rattle.automaton.specs.Passes.{passes_at, passes_of}

module _ (n L c i v : ℕ) where
  entry_below : entry_fits n L c i v ≡ true → i / 16 < n → i % 16 < L → v < c
  entry_below h hq hl = ltb-true _ _ (rw (lt-ltb _ _ hq, lt-ltb _ _ hl) at h)

  entry_zero : entry_fits n L c i v ≡ true → (n ≤ i / 16) ⊎ (L ≤ i % 16) → v ≡ 0
  entry_zero h (inl hq) = eqb-true _ _ (rw (le-ltb _ _ hq) at h)
  entry_zero h (inr hl) = go (dec_lt (i / 16) n)
    where
      go : Dec (i / 16 < n) → v ≡ 0
      go (yes hq) = eqb-true _ _ (rw (lt-ltb _ _ hq, le-ltb _ _ hl) at h)
      go (no hq) = let g : n ≤ i / 16 = omega arith in eqb-true _ _ (rw (le-ltb _ _ g) at h)

  entry_of : (i / 16 < n → i % 16 < L → v < c) → ((n ≤ i / 16) ⊎ (L ≤ i % 16) → v ≡ 0) → entry_fits n L c i v ≡ true
  entry_of below zero = go (dec_lt (i / 16) n) (dec_lt (i % 16) L)
    where
      go : Dec (i / 16 < n) → Dec (i % 16 < L) → entry_fits n L c i v ≡ true
      go (yes hq) (yes hl) = rw (lt-ltb _ _ hq, lt-ltb _ _ hl) (lt-ltb _ _ (below hq hl))
      go (yes hq) (no hl) = let g : L ≤ i % 16 = omega arith in rw (lt-ltb _ _ hq, le-ltb _ _ g) (eq-eqb _ _ (zero (inr g)))
      go (no hq) d = let g : n ≤ i / 16 = omega arith in rw (le-ltb _ _ g) (eq-eqb _ _ (zero (inl g)))

module _ (n L c : ℕ) (xs : List ℕ) where
  abbrev at : ℕ → ℕ → ℕ
  at q l = get_or xs (q * 16 + l) 0

  pub filled_below : filled n L c xs ≡ true → n ≤ 16 → L ≤ 16 → (q l : ℕ) → q < n → l < L → at q l < c
  filled_below h hn hL q l hq hl =
      let g : l < 16 = omega arith in
      entry_below n L c (q * 16 + l) (at q l) (passes_at 256 _ h (q * 16 + l) (omega arith)) (rw (digits_div q g) hq) (rw (digits_mod q g) hl)

  pub filled_zero : filled n L c xs ≡ true → (q l : ℕ) → q < 16 → l < 16 → (n ≤ q) ⊎ (L ≤ l) → at q l ≡ 0
  filled_zero h q l hq hl u =
      entry_zero n L c (q * 16 + l) (at q l) (passes_at 256 _ h (q * 16 + l) (omega arith)) (rw (digits_div q hl, digits_mod q hl) u)

  pub filled_of : ((q l : ℕ) → q < n → l < L → at q l < c) → ((q l : ℕ) → q < 16 → l < 16 → (n ≤ q) ⊎ (L ≤ l) → at q l ≡ 0) → filled n L c xs ≡ true
  filled_of below zero = passes_of 256 _ (λ i h. entry_of n L c i (get_or xs i 0)
      (λ hq hl. subst (λ k. get_or xs k 0 < c) (place i) (below (i / 16) (i % 16) hq hl))
      (λ u. subst (λ k. get_or xs k 0 ≡ 0) (place i) (zero (i / 16) (i % 16) (omega arith) (omega arith) u)))
