-- One edge more of a breadth-first search: it leads to a node that has been seen, or to a new one.
use Rattle.std.specs.Prelude.{◌≡◌, ◌≢◌, ℕ, suc, ◌+◌, ◌*◌, ◌≤◌, ◌<◌}
use Rattle.std.proofs.Common.{sym, ap, ap₂, ◌∙◌, subst, arith}
use Rattle.std.proofs.Math.Decide.{dec_lt, ℕ_discrete}
use Rattle.compare_shortest.specs.Search.{Places, parent, letter, Child, Placed, Followed, Search}

module _ (σ : ℕ → ℕ → ℕ) (L root : ℕ) (hL : L ≤ 16) where
  module _ {seen : ℕ → ℕ} {a : Places} {n h l : ℕ} (S : Search σ L root seen a n h l) (hn : h < n) (hl : l < L) where
    -- an edge that is followed now, or has been
    both : (Q : ℕ → ℕ → Type 0) → Q h l → ((k m : ℕ) → m < L → k * 16 + m < h * 16 + l → Q k m) → (k m : ℕ) → m < L → k * 16 + m < h * 16 + suc l → Q k m
    both Q now old k m g j = go (dec_lt (k * 16 + m) (h * 16 + l))
      where
        go : Dec (k * 16 + m < h * 16 + l) → Q k m
        go (yes d) = old k m g d
        go (no d) =
            let ek : h ≡ k = omega arith in
            let em : l ≡ m = omega arith in
            subst (λ i. Q i m) ek (subst (Q h) em now)

    -- ---- the edge leads to a node that has been seen
    pub edge_to_old : seen (σ (a.node h) l) ≡ 1 → Search σ L root seen a n h (suc l)
    edge_to_old e = record {
      some = S.some;
      head = S.head;
      root_node = S.root_node;
      root_depth = S.root_depth;
      child = S.child;
      once = S.once;
      order = S.order;
      upto = λ k g m. omega (arith, S.upto k g m);
      flag = S.flag;
      seen_node = S.seen_node;
      known = S.known;
      followed = both (Followed σ a n) this (λ k m g j. S.followed k m g j);
    }
      where
        this : Followed σ a n h l
        this =
            let P = S.known (σ (a.node h) l) e in
            record { to = P; soon = omega (arith, S.upto P.place P.late P.within) }

    -- ---- it leads to a new node, which stands at the place n
    module _ {after : ℕ → ℕ} (new : seen (σ (a.node h) l) ≡ 0) (at_node : a.node n ≡ σ (a.node h) l) (at_Edge : a.edge n ≡ h * 16 + l) (at-depth : a.depth n ≡ suc (a.depth h))
        (now : after (σ (a.node h) l) ≡ 1) (rest : (c : ℕ) → c ≢ σ (a.node h) l → after c ≡ seen c) where
      child_new : Child σ L a n
      child_new =
          let up : parent a n ≡ h = omega (arith, at_Edge) in
          let by : letter a n ≡ l = omega (arith, at_Edge) in
          record {
            up = rw up hn;
            over = rw by hl;
            leads = at_node ∙ sym (ap₂ (λ p m. σ (a.node p) m) up by);
            deeper = at-depth ∙ sym (ap (λ p. suc (a.depth p)) up);
          }

      old_node : (k : ℕ) → 0 < k → k < n → a.node k ≢ σ (a.node h) l
      old_node k g m e = omega (arith, S.seen_node k g m, ap seen e)

      abbrev placed_more : {c : ℕ} → Placed a n c → Placed a (suc n) c
      placed_more P = record { place = P.place; late = P.late; within = omega (arith, P.within); there = P.there }

      abbrev placed_new : Placed a (suc n) (σ (a.node h) l)
      placed_new = record { place = n; late = S.some; within = omega arith; there = at_node }

      -- an old place, or the new one
      below : (Q : ℕ → Type 0) → Q n → ((k : ℕ) → k < n → Q k) → (k : ℕ) → k < suc n → Q k
      below Q here old k g = go (ℕ_discrete n k)
        where
          go : Dec (n ≡ k) → Q k
          go (yes e) = subst Q e here
          go (no e) = old k (omega arith)

      pub edge_to_new : Search σ L root after a (suc n) h (suc l)
      edge_to_new = record {
        some = omega arith;
        head = omega (arith, S.head);
        root_node = S.root_node;
        root_depth = S.root_depth;
        child = λ k g m. below (λ i. 0 < i → Child σ L a i) (λ z. child_new) (λ i w z. S.child i z w) k m g;
        once = λ i j g k m. below (λ p. i < p → a.node i ≢ a.node p) (λ w e. old_node i g w (e ∙ at_node)) (λ p w z. S.once i p g z w) j m k;
        order = λ i j g k m. below (λ p. i < p → a.edge i < a.edge p) (λ w. omega (arith, S.upto i g w, at_Edge)) (λ p w z. S.order i p g z w) j m k;
        upto = λ k g m. below (λ i. 0 < i → a.edge i < h * 16 + suc l) (λ z. omega (arith, at_Edge)) (λ i w z. omega (arith, S.upto i z w)) k m g;
        flag = λ c. flag_at c (ℕ_discrete c (σ (a.node h) l));
        seen_node = λ k g m. below (λ i. 0 < i → after (a.node i) ≡ 1) (λ z. ap after at_node ∙ now) (λ i w z. rest (a.node i) (old_node i z w) ∙ S.seen_node i z w) k m g;
        known = λ c e. known_at c e (ℕ_discrete c (σ (a.node h) l));
        followed = both (Followed σ a (suc n)) (record { to = placed_new; soon = omega (arith, at_Edge) }) (λ k m g j. more k m (S.followed k m g j));
      }
        where
          flag_at : (c : ℕ) → Dec (c ≡ σ (a.node h) l) → after c ≤ 1
          flag_at c (yes e) = omega (arith, ap after e, now)
          flag_at c (no e) = omega (arith, rest c e, S.flag c)

          known_at : (c : ℕ) → after c ≡ 1 → Dec (c ≡ σ (a.node h) l) → Placed a (suc n) c
          known_at c g (yes e) = subst (Placed a (suc n)) (sym e) placed_new
          known_at c g (no e) = placed_more (S.known c (sym (rest c e) ∙ g))

          more : (k m : ℕ) → Followed σ a n k m → Followed σ a (suc n) k m
          more k m F = record { to = placed_more F.to; soon = F.soon }
