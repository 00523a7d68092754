-- The test of a table: what a loop that goes through it knows.
use Rattle.std.specs.Prelude.{◌≡◌, refl, ◌↔◌, Bool, true, false, List, ℕ, ◌+◌, ◌*◌, ◌/◌, ◌%◌, ◌≤◌, ◌<◌, ltb, length, get_or, EachIndex}
use Rattle.std.proofs.Common.{subst, arith, below_more, lt-ltb, ltb-true}
use Rattle.std.proofs.lemmas.Bool.{false≢true}
use Rattle.compare_tables.specs.Tables.{Below, InRange}

-- a test that fails where P does not hold
pub not_so : {P : Type 0} → ¬ P → (false ≡ true) ↔ P
not_so n = (λ e. absurd (false≢true e), λ p. absurd (n p))

-- the first i entries are below c
pub record EntriesBelow (c : ℕ) (table : List ℕ) (i : ℕ) : Type 0 where
  pub reached : i ≤ 256
  pub entries : (k : ℕ) → k < i → get_or table k 0 < c

pub entries_none : (c : ℕ) (table : List ℕ) → EntriesBelow c table 0
entries_none c table = record { reached = omega arith; entries = λ k h. absurd (omega arith) }

module _ {c : ℕ} {table : List ℕ} {i : ℕ} (E : EntriesBelow c table i) where
  pub entries_more : i < 256 → get_or table i 0 < c → EntriesBelow c table (i + 1)
  entries_more h g = record { reached = omega arith; entries = below_more (λ k. get_or table k 0 < c) i E.entries g }

  pub entries_all : 256 ≤ i → (true ≡ true) ↔ Below c table
  entries_all h = (λ _ q l hq hl. E.entries (q * 16 + l) (omega arith), λ _. refl)

  pub entries_fail : i < 256 → c ≤ get_or table i 0 → (false ≡ true) ↔ Below c table
  entries_fail h g = not_so (λ b.
      let e : i / 16 * 16 + i % 16 ≡ i = omega arith in
      omega (arith, subst (λ k. get_or table k 0 < c) e (b (i / 16) (i % 16) (omega arith) (omega arith))))

-- a test that passes if and only if each entry is below c
pub below_each : {r : Bool} {c : ℕ} (table : List ℕ) → length table ≡ 256 → (r ≡ true) ↔ EachIndex table (λ k. get_or table k 0 < c) → (r ≡ true) ↔ Below c table
below_each {r} {c} table size e = (
  λ t q l hq hl. e.0 t (q * 16 + l) (omega (arith, size)),
  λ b. e.1 (λ i h.
      let p : i / 16 * 16 + i % 16 ≡ i = omega arith in
      subst (λ k. get_or table k 0 < c) p (b (i / 16) (i % 16) (omega (arith, size)) (omega arith))),
)

pub in_range : {next marks : List ℕ} (start : ℕ) → Below 16 next → Below 16 marks → (ltb start 16 ≡ true) ↔ InRange next marks start
in_range start n m = (λ e. record { next_lt = n; marks_lt = m; start_lt = ltb-true _ _ e }, λ r. lt-ltb _ _ r.start_lt)
