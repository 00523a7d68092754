-- A search from a node that is a hit finds the first loop there.
use Rattle.std.specs.Prelude.{◌≡◌, ◌⊎◌, List, ◌++◌, ℕ, ◌/◌, ◌≤◌, ◌<◌, length, drop}
use Rattle.std.proofs.Common.{sym, ap, ◌∙◌, subst, inl, inr, arith}
use Rattle.std.proofs.Math.Decide.{dec_lt, ℕ_discrete}
use Rattle.compare_shortest.specs.SearchOrder.{NotLater, earlier_trans, not_later_length}
use Rattle.compare_shortest.specs.SearchWords.{back, word, length_word, depth_le, word_over, word_run}
use Rattle.compare_shortest.proofs.WordsRise.{words_rise}
use Rattle.compare_shortest.proofs.SearchComplete.{Reached, Beyond, reached}
use Rattle.compare_shortest.specs.ReadBack.{Chain, chain}
use Rattle.compare_shortest.specs.Graph.{at, Hit, HitLoop}
use Rattle.compare_shortest.specs.Packing.{depth_of, view}
use Rattle.compare_shortest.specs.State.{State}
use Rattle.compare_shortest.specs.Explored.{Explored, Searched}
use Rattle.compare_shortest.specs.ClosestLoop.{LoopLength, LoopWritten}

module _ {D H places : List ℕ} {L v bound n k : ℕ} (X : Searched D H places L v (v / 256) bound n k) where
  abbrev E : Explored D H X.seen places L v (v / 256) bound n k
  E = X.explored

  abbrev S : State D X.seen places L v n X.explored.here 0
  S = X.explored.state

  -- a loop that is a hit leads to the place of a hit, or past the search
  record AtHit (y : List ℕ) : Type 0 where
    place : ℕ
    within : place < n
    first : NotLater (word (view places) place) y
    not_before : k ≤ place

  at_hit : (y : List ℕ) → HitLoop D H L v y → AtHit y ⊎ Beyond S.search y
  at_hit y s = go (reached S.search S.letters (omega arith) y s.over)
    where
      go : Reached S.search y ⊎ Beyond S.search y → AtHit y ⊎ Beyond S.search y
      go (inr b) = inr b
      go (inl R) = inl (record { place = R.place; within = R.within; first = R.first; not_before = low (dec_lt R.place k) })
        where
          low : Dec (R.place < k) → k ≤ R.place
          low (no d) = omega arith
          low (yes d) = absurd (E.first.before R.place (R.late s.some) d (subst (Hit H (v / 256)) (sym R.there) s.hit))

  -- ---- there is none
  pub no_loop : k ≡ n → (y : List ℕ) → HitLoop D H L v y → bound < length y
  no_loop e y s = go (at_hit y s)
    where
      go : AtHit y ⊎ Beyond S.search y → bound < length y
      go (inl A) = absurd (omega (arith, A.within, A.not_before))
      go (inr B) = omega (arith, E.all e B.here, B.far)

  -- ---- there is one: the word of the place k
  module _ (g : k < n) where
    abbrev loop : List ℕ
    loop = word (view places) k

    pub loop_length : length loop ≡ depth_of (at places k)
    loop_length = length_word (view places) k

    pub loop_some : 0 < depth_of (at places k)
    loop_some = omega (arith, (S.search.child k E.first.low g).deeper)

    pub loop_hit : HitLoop D H L v loop
    loop_hit = record {
      over = word_over S.search k g;
      some = λ e. omega (arith, ap length e, loop_length, loop_some);
      hit = subst (Hit H (v / 256)) (sym (word_run S.search k g)) (E.first.found g);
    }

    pub loop_first : (y : List ℕ) → HitLoop D H L v y → NotLater loop y
    loop_first y s = go (at_hit y s)
      where
        at_place : (A : AtHit y) → Dec (A.place ≡ k) → NotLater loop y
        at_place A (yes e) = subst (λ p. NotLater (word (view places) p) y) e A.first
        at_place A (no e) =
            inl (earlier_trans loop (word (view places) A.place) y (words_rise S.search k A.place (omega (arith, A.not_before)) A.within) A.first)

        go : AtHit y ⊎ Beyond S.search y → NotLater loop y
        go (inl A) = at_place A (ℕ_discrete A.place k)
        go (inr B) = inl (B.later k g)

    pub loop_small : depth_of (at places k) < 65537
    loop_small = omega (arith, depth_le S.search k g, S.limit)

    pub loop_fits : depth_of (at places k) ≤ bound
    loop_fits = E.near k g

    pub loop_chain : (d : ℕ) → d ≡ depth_of (at places k) → Chain (view places).edge (length places) d k
    loop_chain d e = chain S.search (length places) (omega (arith, S.limit, S.places_size)) d k g (sym e)

    pub length_found : {r : ℕ} → r ≡ depth_of (at places k) → LoopLength D H L v bound r
    length_found e = record {
      none = λ z. absurd (omega (arith, loop_some));
      found = λ z. (loop, loop_hit, loop_length ∙ sym e);
      least = λ y s. omega (arith, not_later_length loop y (loop_first y s), loop_length);
      fits = omega (arith, loop_fits);
    }

    pub written_found : {r : ℕ} {out written : List ℕ} → r ≡ depth_of (at places k) → bound ≡ length out → written ≡ back (view places).edge r k ++ drop r out → LoopWritten D H L v out written r
    written_found {r} {out} e f w = record {
      none = λ z. absurd (omega (arith, loop_some));
      found = λ z. record {
        loop = loop;
        is_hit = loop_hit;
        first = loop_first;
        size = loop_length ∙ sym e;
        fits = omega (arith, loop_fits);
        there = w ∙ ap (λ d. back (view places).edge d k ++ drop r out) e;
      };
    }

  pub length_none : k ≡ n → LoopLength D H L v bound 0
  length_none e = record { none = λ z. no_loop e; found = λ z. absurd (omega arith); least = λ y s. omega arith; fits = omega arith }

  pub written_none : {out : List ℕ} → k ≡ n → bound ≡ length out → LoopWritten D H L v out out 0
  written_none e f = record { none = λ z y s. omega (arith, no_loop e y s); found = λ z. absurd (omega arith) }

  pub hit_place : (k ≡ n → ⊥) → k < n
  hit_place ne = omega (arith, E.first.high)
