-- The outer search and the choice of a place give the first of all words: a word x to a node, and a loop y there that is a hit.
use Rattle.std.specs.Prelude.{◌≡◌, refl, ◌⊎◌, List, ◌++◌, ℕ, ◌+◌, ◌≤◌, ◌<◌, length, drop}
use Rattle.std.specs.Option.{unwrap_or, IsSome}
use Rattle.std.proofs.Common.{Option, Some, None, sym, ◌∙◌, subst, inl, inr, arith}
use Rattle.std.proofs.Math.Decide.{dec_lt, ℕ_discrete}
use Rattle.compare_shortest.specs.declared.Verdict.TheVariants.{Same, Differ}
use Rattle.meaning.specs.FirstWord.{Smaller, Precedes}
use Rattle.meaning.proofs.WordOrder.{precedes_by}
use Rattle.compare_shortest.specs.Answer.{Within, Answer}
use Rattle.compare_shortest.specs.SearchOrder.{NotLater, earlier_trans, not_later_length, earlier_smaller, not_later_smaller}
use Rattle.compare_shortest.specs.SearchWords.{back, word, length_word, word_over, word_run}
use Rattle.compare_shortest.proofs.WordsRise.{words_rise, depths_rise}
use Rattle.compare_shortest.proofs.SearchComplete.{Reached, Beyond, reached}
use Rattle.compare_shortest.specs.ReadBack.{Chain, chain}
use Rattle.compare_shortest.specs.Graph.{at, HitLoop, HitLasso}
use Rattle.compare_shortest.specs.Packing.{node_of, depth_of, view}
use Rattle.compare_shortest.specs.State.{State}
use Rattle.compare_shortest.specs.Explored.{Searched}
use Rattle.compare_shortest.specs.ClosestLoop.{FirstLoop, LoopWritten}
use Rattle.compare_shortest.specs.Choice.{Choosing}
use Rattle.compare_shortest.specs.Chosen.{NoLoop}

module _ {P H outer : List ℕ} {L root most n m : ℕ} (X : Searched P H outer L root 256 most n m) where
  abbrev S : State P X.seen outer L root n X.explored.here 0
  S = X.explored.state

  -- no node has the pair 256, so the outer search has found all nodes within `most` letters
  all_found : m ≡ n
  all_found = go (dec_lt m n)
    where
      go : Dec (m < n) → m ≡ n
      go (yes h) = absurd (omega (arith, (X.explored.first.found h).0))
      go (no h) = omega (arith, X.explored.first.high)

  outer_reached : (x : List ℕ) → length x ≤ most → Reached S.search x ⊎ Beyond S.search x → Reached S.search x
  outer_reached x h (inl R) = R
  outer_reached x h (inr B) = absurd (omega (arith, X.explored.all all_found B.here, B.far))

  module _ (D : List ℕ) (bound : ℕ) where
    abbrev Q : List ℕ → List ℕ → Type 0
    Q = Within most bound (HitLasso P D H L root)

    -- ---- where a word leads, and the total there
    module _ (x y : List ℕ) (w : Q x y) where
      R : Reached S.search x
      R = outer_reached x w.prefix_fits (reached S.search S.letters (omega arith) x w.shows.over)

      loop_there : HitLoop D H L (node_of (at outer R.place)) y
      loop_there = subst (λ c. HitLoop D H L c y) (sym R.there) w.shows.loop

      depth_there : depth_of (at outer R.place) ≤ length x
      depth_there = omega (arith, not_later_length (word (view outer) R.place) x R.first, length_word (view outer) R.place)

    pub answer_none : (prefix cycle : List ℕ) → NoLoop D H outer L bound n → Answer Q prefix prefix cycle cycle Same
    answer_none prefix cycle none = (λ x y w. omega (arith, none (R x y w).place (R x y w).within y (loop_there x y w), w.loop_fits), refl, refl)

    -- ---- the word of the place b, and the first loop there
    module _ {none b t v r : ℕ} {cycle written-cycle : List ℕ} (g : b < n) (C : Choosing D H outer L bound none n n b t) (ev : v ≡ node_of (at outer b)) (eb : bound ≡ length cycle) (W : LoopWritten D H L v cycle written-cycle r) where
      pub loop_found : 0 < r
      loop_found = go (ℕ_discrete r 0)
        where
          go : Dec (r ≡ 0) → 0 < r
          go (no e) = omega arith
          go (yes e) = let (y, s, h, q) = C.found g in absurd (omega (arith, W.none e y (subst (λ u. HitLoop D H L u y) (sym ev) s)))

      F : FirstLoop D H L v cycle written-cycle r
      F = W.found loop_found

      abbrev x : List ℕ
      x = word (view outer) b

      abbrev y : List ℕ
      y = F.loop

      abbrev p : ℕ
      p = depth_of (at outer b)

      total_there : (u z : List ℕ) (w : Q u z) → t ≤ depth_of (at outer (R u z w).place) + length z
      total_there u z w = C.least (R u z w).place (R u z w).within z (loop_there u z w) w.loop_fits

      pub prefix_chain : (d : ℕ) → d ≡ p → Chain (view outer).edge (length outer) d b
      prefix_chain d e = chain S.search (length outer) (omega (arith, S.limit, S.places_size)) d b g (sym e)

      pub prefix_fits : p ≤ most
      prefix_fits = X.explored.near b g

      first_at : (w : List ℕ) → HitLoop D H L (node_of (at outer b)) w → NotLater y w
      first_at w s = F.first w (subst (λ u. HitLoop D H L u w) (sym ev) s)

      shows : HitLasso P D H L root x y
      shows = record {
        over = word_over S.search b g;
        loop = subst (λ u. HitLoop D H L u y) (ev ∙ sym (word_run S.search b g)) F.is_hit;
      }

      length_x : length x ≡ p
      length_x = length_word (view outer) b

      total : t ≡ p + r
      total =
          let (w, s, h, q) = C.found g in
          omega (arith, not_later_length y w (first_at w s), F.size, C.least b g y (subst (λ u. HitLoop D H L u y) ev F.is_hit) (omega (arith, F.size, F.fits)))

      best : (u w : List ℕ) → Q u w → Precedes x y u w
      best u w z = precedes_by x y u w
          (omega (arith, length_x, F.size, total, total_there u w z, depth_there u w z))
          (λ e. omega (arith, length_x, F.size, total, total_there u w z, depth_there u w z, depths_rise S.search b place (not_before e) (R u w z).within))
          (λ e f. letters e f (ℕ_discrete b place) (not_before (omega arith)))
        where
          place : ℕ
          place = (R u w z).place

          not_before : length x + length y ≡ length u + length w → b ≤ place
          not_before e = go (dec_lt place b)
            where
              go : Dec (place < b) → b ≤ place
              go (no h) = omega arith
              go (yes h) = absurd (omega (arith, length_x, F.size, total, depth_there u w z, C.first g place h w (loop_there u w z) z.loop_fits))

          letters : length x ≡ length u → length y ≡ length w → Dec (b ≡ place) → b ≤ place → Smaller x u ⊎ ((x ≡ u) × (Smaller y w ⊎ (y ≡ w)))
          letters e f (no h) r =
              inl (earlier_smaller x u e (earlier_trans x (word (view outer) place) u (words_rise S.search b place (omega arith) (R u w z).within) (R u w z).first))
          letters e f (yes h) r = at_place (not_later_smaller x u e (subst (λ i. NotLater (word (view outer) i) u) (sym h) (R u w z).first))
            where
              at_place : Smaller x u ⊎ (x ≡ u) → Smaller x u ⊎ ((x ≡ u) × (Smaller y w ⊎ (y ≡ w)))
              at_place (inl s) = inl s
              at_place (inr s) = inr (s, not_later_smaller y w f (first_at w (subst (λ i. HitLoop D H L (node_of (at outer i)) w) (sym h) (loop_there u w z))))

      pub answer_found : {d : ℕ} {prefix written-prefix : List ℕ} → d ≡ p → written-prefix ≡ back (view outer).edge d b ++ drop d prefix
          → Answer Q prefix written-prefix cycle written-cycle (Differ d r)
      answer_found {d} {prefix} {written-prefix} e w = subst (λ i. Answer Q prefix written-prefix cycle written-cycle (Differ i r)) (sym e) (record {
        x = x;
        y = y;
        prefix_length = length_x;
        loop_length = F.size;
        prefix_written = subst (λ i. written-prefix ≡ back (view outer).edge i b ++ drop i prefix) e w;
        loop_written = F.there;
        shows = record { shows = shows; prefix_fits = omega (arith, length_x, prefix_fits); loop_fits = omega (arith, F.size, F.fits) };
        best = best;
      })

-- ---- the length of the loop, as it is handed on
pub written_some : {D H : List ℕ} {L v l : ℕ} {out written : List ℕ} {r : Option ℕ} → r ≡ Some l → LoopWritten D H L v out written (unwrap_or r 0) → LoopWritten D H L v out written l
written_some {D} {H} {L} {v} {l} {out} {written} e W = subst (λ o. LoopWritten D H L v out written (unwrap_or o 0)) e W

pub is_there : (r : Option ℕ) → 0 < unwrap_or r 0 → IsSome r
is_there None h = absurd (omega arith)
is_there (Some l) h = refl
