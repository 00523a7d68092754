-- A breadth-first search is COMPLETE: a word leads to a place whose own word is not later; or the search has not come so far, and the words of all
-- places are earlier.
use Rattle.std.specs.Prelude.{◌≡◌, refl, ◌≢◌, ◌⊎◌, List, [], ◌∷◌, ◌++◌, ℕ, ◌+◌, ◌*◌, ◌≤◌, ◌<◌, length}
use Rattle.std.proofs.Common.{sym, ap, ◌∙◌, subst, inl, inr, append_assoc, append-nil, arith, length-append}
use Rattle.std.proofs.Math.Decide.{dec_lt, ℕ_discrete}
use Rattle.meaning.specs.Walk.{run}
use Rattle.meaning.specs.WalkLaws.{run_append}
use Rattle.meaning.specs.Agreement.{Over}
use Rattle.compare_shortest.specs.SearchOrder.{Earlier, NotLater, earlier_trans, not_later_length, not_later_snoc, prefix_not_later}
use Rattle.compare_shortest.specs.Search.{Places, parent, letter, Followed, Search}
use Rattle.compare_shortest.specs.SearchWords.{word, length_word, word_root, word_child}
use Rattle.compare_shortest.proofs.WordsRise.{depths_rise, edges_rise}

module _ {σ : ℕ → ℕ → ℕ} {L root : ℕ} {seen : ℕ → ℕ} {a : Places} {n h l : ℕ} (S : Search σ L root seen a n h l) where
  -- the word w leads to the node at a place
  pub record Reached (w : List ℕ) : Type 0 where
    pub place : ℕ
    pub within : place < n
    pub there : a.node place ≡ run σ root w
    pub first : NotLater (word a place) w
    pub late : w ≢ [] → 0 < place

  -- the search has not come so far: there are edges to follow, and w goes on after them
  pub record Beyond (w : List ℕ) : Type 0 where
    pub here : h < n
    pub far : a.depth h < length w
    pub later : (k : ℕ) → k < n → Earlier (word a k) w

  module _ (hL : L ≤ 16) (hl : l ≤ 16) where
    -- the edge has been followed
    first_step : (k m : ℕ) (u : List ℕ) → k < n → m < L → NotLater (word a k) u → (F : Followed σ a n k m) → NotLater (word a F.to.place) (u ++ (m ∷ []))
    first_step k m u g hm f F = go (ℕ_discrete (a.edge p) (k * 16 + m))
      where
        p : ℕ
        p = F.to.place

        split : word a p ≡ word a (parent a p) ++ (letter a p ∷ [])
        split = word_child S p F.to.late F.to.within

        snoc : NotLater (word a k ++ (m ∷ [])) (u ++ (m ∷ []))
        snoc = not_later_snoc (word a k) u m f

        go : Dec (a.edge p ≡ k * 16 + m) → NotLater (word a p) (u ++ (m ∷ []))
        go (yes e) =
            let up : parent a p ≡ k = omega arith in
            let by : letter a p ≡ m = omega arith in
            rw (split, up, by) snoc
        go (no e) =
            let z : a.edge p < k * 16 + m = omega (arith, F.soon) in
            rw split (inl (earlier_trans (word a (parent a p) ++ (letter a p ∷ [])) (word a k ++ (m ∷ [])) (u ++ (m ∷ []))
            (edges_rise S (parent a p) k (letter a p) m g (omega arith) (omega arith) (omega arith)) snoc))

    -- it has not: the word w goes on past the search
    beyond : (k m : ℕ) (u w : List ℕ) → k < n → m < L → NotLater (word a k) u → h * 16 + l ≤ k * 16 + m → Beyond (u ++ m ∷ w)
    beyond k m u w g hm f open-edge = record {
      here = omega arith;
      far = omega (arith, depths_rise S h k (omega arith) g, not_later_length (word a k) u f, length_word a k, length-append u (m ∷ w));
      later = λ j hj. at_place j hj (ℕ_discrete j 0);
    }
      where
        rest : NotLater (u ++ (m ∷ [])) (u ++ m ∷ w)
        rest = subst (NotLater (u ++ (m ∷ []))) (append_assoc u (m ∷ []) w) (prefix_not_later (u ++ (m ∷ [])) w)

        whole : NotLater (word a k ++ (m ∷ [])) (u ++ (m ∷ []))
        whole = not_later_snoc (word a k) u m f

        at_place : (j : ℕ) → j < n → Dec (j ≡ 0) → Earlier (word a j) (u ++ m ∷ w)
        at_place j hj (yes e) = inl (omega (arith, length_word a j, ap a.depth e, S.root_depth, length-append u (m ∷ w)))
        at_place j hj (no e) =
            let o : 0 < j = omega arith in
            let z = S.upto j o hj in
            earlier_trans (word a j) (u ++ (m ∷ [])) (u ++ m ∷ w)
            (rw (word_child S j o hj) (earlier_trans (word a (parent a j) ++ (letter a j ∷ [])) (word a k ++ (m ∷ [])) (u ++ (m ∷ []))
            (edges_rise S (parent a j) k (letter a j) m g (omega arith) (omega arith) (omega arith)) whole)) rest

    -- a word u that leads to a place, and w after it
    reach : (w u : List ℕ) → Reached u → Over L w → Reached (u ++ w) ⊎ Beyond (u ++ w)
    reach [] u R o = inl (subst Reached (sym (append-nil u)) R)
    reach (m ∷ w) u R o = go (dec_lt (R.place * 16 + m) (h * 16 + l)) (λ T. reach w (u ++ (m ∷ [])) T o.1)
      where
        go : Dec (R.place * 16 + m < h * 16 + l) → (Reached (u ++ (m ∷ [])) → Reached ((u ++ (m ∷ [])) ++ w) ⊎ Beyond ((u ++ (m ∷ [])) ++ w)) → Reached (u ++ m ∷ w) ⊎ Beyond (u ++ m ∷ w)
        go (yes d) ih =
            let F = S.followed R.place m o.0 d in
            subst (λ v. Reached v ⊎ Beyond v) (append_assoc u (m ∷ []) w)
            (ih (record {
              place = F.to.place;
              within = F.to.within;
              there = F.to.there ∙ ap (λ c. σ c m) R.there ∙ sym (run_append σ root u (m ∷ []));
              first = first_step R.place m u R.within o.0 R.first F;
              late = λ z. F.to.late;
            }))
        go (no d) ih = inr (beyond R.place m u w R.within o.0 R.first (omega arith))

    pub reached : (w : List ℕ) → Over L w → Reached w ⊎ Beyond w
    reached w o = reach w [] (record { place = 0; within = S.some; there = S.root_node; first = inr (word_root S); late = λ z. absurd (z refl) }) o
