-- Where a word leads in an automaton given by tables, and what it meets on the way.
use Rattle.std.specs.Prelude.{◌≡◌, List, [], ◌∷◌, ◌||◌, ℕ, ◌≤◌, ◌<◌}
use Rattle.std.proofs.Common.{ap, ◌∙◌, arith}
use Rattle.std.proofs.lemmas.Nat.{or_lt}
use Rattle.meaning.specs.BitSet.{has}
use Rattle.meaning.specs.BitSetLaws.{has_or, has_zero}
use Rattle.meaning.specs.Walk.{run, meets}
use Rattle.meaning.specs.Agreement.{Over}
use Rattle.compare_tables.specs.Tables.{entry, Below}
use Rattle.compare_shortest.specs.Difference.{met}

-- it leads to states, and meets sets of marks, below 16
module _ {L : ℕ} where
  pub run_lt : (next : List ℕ) → Below 16 next → L ≤ 16 → (w : List ℕ) (q : ℕ) → q < 16 → Over L w → run (entry next) q w < 16
  run_lt next hn hL [] q h o = h
  run_lt next hn hL (l ∷ w) q h o = run_lt next hn hL w (entry next q l) (hn q l h (omega (arith, o.0))) o.1

  pub met_lt : (next marks : List ℕ) → Below 16 next → Below 16 marks → L ≤ 16 → (w : List ℕ) (q : ℕ) → q < 16 → Over L w → met next marks q w < 16
  met_lt next marks hn hm hL [] q h o = omega arith
  met_lt next marks hn hm hL (l ∷ w) q h o =
      let hl : l < 16 = omega (arith, o.0) in
      or_lt 4 (entry marks q l) (met next marks (entry next q l) w) (hm q l h hl) (met_lt next marks hn hm hL w (entry next q l) (hn q l h hl) o.1)

-- the sets met are those that `meets` tells, one by one
pub met_has : (next marks : List ℕ) (i : ℕ) (w : List ℕ) (q : ℕ) → has (met next marks q w) i ≡ meets (entry next) (λ p l. has (entry marks p l) i) q w
met_has next marks i [] q = has_zero i
met_has next marks i (l ∷ w) q =
    has_or (entry marks q l) (met next marks (entry next q l) w) i ∙ ap (λ b. has (entry marks q l) i || b) (met_has next marks i w (entry next q l))
