-- The best place, if there is one: `Choosing` where the place is an `Option`.
use Rattle.std.specs.Prelude.{◌≡◌, refl, List, ℕ, ◌+◌, ◌<◌, length, MatchOption}
use Rattle.std.proofs.Common.{Option, Some, None, sym, subst, arith, below_more}
use Rattle.compare_shortest.specs.declared.choice.Choice.{Choice}
use Rattle.compare_shortest.specs.Graph.{at, HitLoop}
use Rattle.compare_shortest.specs.Packing.{node_of, depth_of}
use Rattle.compare_shortest.specs.ClosestLoop.{LoopLength}
use Rattle.compare_shortest.specs.Choice.{Choosing, Room, Better, choosing_more}

-- no loop at the first i places that is a hit has at most `bound` letters
abbrev pub NoLoop : List ℕ → List ℕ → List ℕ → ℕ → ℕ → ℕ → Type 0
NoLoop D H places L bound i = (k : ℕ) → k < i → (y : List ℕ) → HitLoop D H L (node_of (at places k)) y → bound < length y

-- of the first i of n places, the best with its total; none where there is no loop
abbrev pub Best : List ℕ → List ℕ → List ℕ → ℕ → ℕ → ℕ → ℕ → Option Choice → Type 0
Best D H places L bound n i best = MatchOption best (NoLoop D H places L bound i) (λ b. (b.place < n) × Choosing D H places L bound 0 n i b.place b.total)

-- a place that is one of them is chosen the same, whatever total stands for none
any_none : {D H places : List ℕ} {L bound none other n i b t : ℕ} → b < n → Choosing D H places L bound none n i b t → Choosing D H places L bound other n i b t
any_none h C = record { high = C.high; start = λ e. absurd (omega arith); found = C.found; least = C.least; first = C.first }

-- r is how long a loop at the depth d may be to make a better place
abbrev pub Fits : ℕ → ℕ → ℕ → Option Choice → Type 0
Fits bound d r best = MatchOption best (r ≡ bound) (λ b. Room b.total d bound r)

module _ (places : List ℕ) (bound : ℕ) {D H : List ℕ} {L n i v d r : ℕ} (g : i < n) (ev : v ≡ node_of (at places i)) (ed : d ≡ depth_of (at places i)) where
  -- no loop there: the best stays
  pub best_kept : (best : Option Choice) → Best D H places L bound n i best → Fits bound d r best → LoopLength D H L v r 0 → Best D H places L bound n (i + 1) best
  best_kept None none e X =
      below_more (λ k. (y : List ℕ) → HitLoop D H L (node_of (at places k)) y → bound < length y) i none
      (λ y s. omega (arith, e, X.none refl y (subst (λ c. HitLoop D H L c y) (sym ev) s)))
  best_kept (Some b) (h, C) R X = (h, choosing_more g C ev ed R X (record { kept = λ z. (refl, refl); taken = λ z. absurd (z refl) }))

  -- a loop of l letters there: it is the best
  pub best_taken : (best : Option Choice) {l : ℕ} → Best D H places L bound n i best → Fits bound d r best → 0 < l → LoopLength D H L v r l
      → Best D H places L bound n (i + 1) (Some (record { place = i; total = d + l }))
  best_taken best {l} B R p X = go best B R
    where
      -- a total that is larger than that of each loop stands for none
      nowhere : NoLoop D H places L bound i → Choosing D H places L bound (d + bound + 1) n i n (d + bound + 1)
      nowhere none = record {
        high = omega arith;
        start = λ z. refl;
        found = λ z. absurd (omega arith);
        least = λ k h y s q. absurd (omega (arith, none k h y s));
        first = λ z. absurd (omega arith);
      }

      longest : r ≡ bound → Room (d + bound + 1) d bound r
      longest e = record { fits = omega arith; less = λ m o q. omega arith; more = λ m q o. absurd (omega arith) }

      better : {b t : ℕ} → Better b t i d l i (d + l)
      better = record { kept = λ z. absurd (omega arith); taken = λ z. (refl, refl) }

      go : (best : Option Choice) → Best D H places L bound n i best → Fits bound d r best → Best D H places L bound n (i + 1) (Some (record { place = i; total = d + l }))
      go None none e = (g, any_none g (choosing_more g (nowhere none) ev ed (longest e) X better))
      go (Some b) (h, C) Q = (g, any_none g (choosing_more g C ev ed Q X better))
