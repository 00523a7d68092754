-- The words that lead to the places of a breadth-first search are in order.
use Rattle.std.specs.Prelude.{◌≡◌, [], ◌∷◌, ◌++◌, ℕ, ◌+◌, ◌*◌, ◌≤◌, ◌<◌}
use Rattle.std.proofs.Common.{ap, subst, inl, arith}
use Rattle.std.proofs.Math.Decide.{dec_lt, ℕ_discrete}
use Rattle.compare_shortest.specs.SearchOrder.{Earlier, earlier_length, earlier_snoc, last_earlier}
use Rattle.compare_shortest.specs.Search.{Places, parent, letter, Search}
use Rattle.compare_shortest.specs.SearchWords.{word, length_word, place_induction, word_child}

module _ {σ : ℕ → ℕ → ℕ} {L root : ℕ} {seen : ℕ → ℕ} {a : Places} {n h l : ℕ} (S : Search σ L root seen a n h l) where
  -- where the words of places are in order, so are those of edges
  edge_step : (i j b m : ℕ) → b < 16 → m < 16 → i * 16 + b < j * 16 + m → (i < j → Earlier (word a i) (word a j)) → Earlier (word a i ++ (b ∷ [])) (word a j ++ (m ∷ []))
  edge_step i j b m hb hm g ih = go (dec_lt i j)
    where
      go : Dec (i < j) → Earlier (word a i ++ (b ∷ [])) (word a j ++ (m ∷ []))
      go (yes d) = earlier_snoc (word a i) (word a j) b m (ih d)
      go (no d) = let e : i ≡ j = omega arith in subst (λ p. Earlier (word a i ++ (b ∷ [])) (word a p ++ (m ∷ []))) e (last_earlier (word a i) b m (omega arith))

  pub words_rise : (i j : ℕ) → i < j → j < n → Earlier (word a i) (word a j)
  words_rise i j g m = place_induction S (λ k. (p : ℕ) → p < k → Earlier (word a p) (word a k)) (λ p z. absurd (omega arith)) (λ k p w ih q z. step k p w ih q z (ℕ_discrete q 0)) j m i g
    where
      step : (k : ℕ) → 0 < k → k < n → ((q : ℕ) → q < parent a k → Earlier (word a q) (word a (parent a k))) → (q : ℕ) → q < k → Dec (q ≡ 0) → Earlier (word a q) (word a k)
      step k p w ih q z (yes e) = inl (omega (arith, length_word a q, length_word a k, ap a.depth e, S.root_depth, (S.child k p w).deeper))
      step k p w ih q z (no e) =
          let o : 0 < q = omega arith in
          let r = S.order q k o z w in
          rw (word_child S q o (omega arith), word_child S k p w)
          (edge_step (parent a q) (parent a k) (letter a q) (letter a k) (omega arith) (omega arith) (omega arith) (ih (parent a q)))

  pub depths_rise : (i j : ℕ) → i ≤ j → j < n → a.depth i ≤ a.depth j
  depths_rise i j g m = go (ℕ_discrete i j)
    where
      go : Dec (i ≡ j) → a.depth i ≤ a.depth j
      go (yes e) = omega (arith, ap a.depth e)
      go (no e) = omega (arith, earlier_length (word a i) (word a j) (words_rise i j (omega arith) m), length_word a i, length_word a j)

  pub edges_rise : (i j b m : ℕ) → j < n → b < 16 → m < 16 → i * 16 + b < j * 16 + m → Earlier (word a i ++ (b ∷ [])) (word a j ++ (m ∷ []))
  edges_rise i j b m g hb hm z = edge_step i j b m hb hm z (λ d. words_rise i j d g)
