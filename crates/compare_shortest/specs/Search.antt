-- Breadth-first search in a graph whose steps are named by letters below 16. The nodes that are found get the places 0, 1, 2, .. in the order in
-- which they are found. An edge is a place and a letter, as one number: 16 times the place, and the letter; edges are followed in the order of
-- their numbers. Place 0 has the root, which counts as not seen: it may be found again, by a word of one letter or more.
use Rattle.std.specs.Prelude.{◌≡◌, ◌≢◌, ℕ, suc, ◌+◌, ◌*◌, ◌/◌, ◌%◌, ◌≤◌, ◌<◌}
use Rattle.std.proofs.Common.{sym, ap, ap₂, ◌∙◌, arith}
use Rattle.std.proofs.Math.Decide.{dec_lt, ℕ_discrete}
use Rattle.meaning.specs.Pigeonhole.{Twice, pigeonhole}

-- what stands at a place: its node, the edge by which it was found, and the number of letters of the word that leads there
pub record Places : Type 0 where
  pub node : ℕ → ℕ
  pub edge : ℕ → ℕ
  pub depth : ℕ → ℕ

abbrev pub parent : Places → ℕ → ℕ
parent a k = a.edge k / 16

abbrev pub letter : Places → ℕ → ℕ
letter a k = a.edge k % 16

-- a place other than 0 was found from an earlier one
pub record Child (σ : ℕ → ℕ → ℕ) (L : ℕ) (a : Places) (k : ℕ) : Type 0 where
  pub up : parent a k < k
  pub over : letter a k < L
  pub leads : a.node k ≡ σ (a.node (parent a k)) (letter a k)
  pub deeper : a.depth k ≡ suc (a.depth (parent a k))

-- the node c has a place other than 0, of the first n
pub record Placed (a : Places) (n c : ℕ) : Type 0 where
  pub place : ℕ
  pub late : 0 < place
  pub within : place < n
  pub there : a.node place ≡ c

-- the edge from k by the letter m has been followed: it leads to a place that was found by this edge, or by an earlier one
pub record Followed (σ : ℕ → ℕ → ℕ) (a : Places) (n k m : ℕ) : Type 0 where
  pub to : Placed a n (σ (a.node k) m)
  pub soon : a.edge to.place ≤ k * 16 + m

-- n places are taken, and the edges before that from h by l have been followed
pub record Search (σ : ℕ → ℕ → ℕ) (L root : ℕ) (seen : ℕ → ℕ) (a : Places) (n h l : ℕ) : Type 0 where
  pub some : 0 < n
  pub head : h ≤ n
  pub root_node : a.node 0 ≡ root
  pub root_depth : a.depth 0 ≡ 0
  pub child : (k : ℕ) → 0 < k → k < n → Child σ L a k
  pub once : (i j : ℕ) → 0 < i → i < j → j < n → a.node i ≢ a.node j
  pub order : (i j : ℕ) → 0 < i → i < j → j < n → a.edge i < a.edge j
  pub upto : (k : ℕ) → 0 < k → k < n → a.edge k < h * 16 + l
  pub flag : (c : ℕ) → seen c ≤ 1
  pub seen_node : (k : ℕ) → 0 < k → k < n → seen (a.node k) ≡ 1
  pub known : (c : ℕ) → seen c ≡ 1 → Placed a n c
  pub followed : (k m : ℕ) → m < L → k * 16 + m < h * 16 + l → Followed σ a n k m

-- the same stands at the place k
pub record SameAt (a b : Places) (k : ℕ) : Type 0 where
  pub node : b.node k ≡ a.node k
  pub edge : b.edge k ≡ a.edge k
  pub depth : b.depth k ≡ a.depth k

module _ (σ : ℕ → ℕ → ℕ) (L root : ℕ) (hL : L ≤ 16) where
  -- ---- the root alone
  pub root_alone : (seen : ℕ → ℕ) (a : Places) → a.node 0 ≡ root → a.depth 0 ≡ 0 → ((c : ℕ) → seen c ≡ 0) → Search σ L root seen a 1 0 0
  root_alone seen a r d none = record {
    some = omega arith;
    head = omega arith;
    root_node = r;
    root_depth = d;
    child = λ k g h. absurd (omega arith);
    once = λ i j g k h. absurd (omega arith);
    order = λ i j g k h. absurd (omega arith);
    upto = λ k g h. absurd (omega arith);
    flag = λ c. omega (arith, none c);
    seen_node = λ k g h. absurd (omega arith);
    known = λ c e. absurd (omega (arith, none c));
    followed = λ k m g h. absurd (omega arith);
  }

  -- ---- all the edges from h have been followed
  pub edges_followed : {seen : ℕ → ℕ} {a : Places} {n h : ℕ} → Search σ L root seen a n h L → h < n → Search σ L root seen a n (suc h) 0
  edges_followed S hn = record {
    some = S.some;
    head = hn;
    root_node = S.root_node;
    root_depth = S.root_depth;
    child = S.child;
    once = S.once;
    order = S.order;
    upto = λ k g m. omega (arith, S.upto k g m);
    flag = S.flag;
    seen_node = S.seen_node;
    known = S.known;
    followed = λ k m g j. S.followed k m g (omega arith);
  }

  -- ---- what stands past the places that are taken does not matter
  module _ {seen : ℕ → ℕ} {a b : Places} {n h l : ℕ} (S : Search σ L root seen a n h l) (hn : h < n) (hl : l < L) (same : (k : ℕ) → k < n → SameAt a b k) where
    child_same : (k : ℕ) → 0 < k → k < n → Child σ L b k
    child_same k g m =
        let C = S.child k g m in
        let e = same k m in
        let f = same (parent a k) (omega (arith, C.up)) in
        let up : parent b k ≡ parent a k = ap (λ x. x / 16) e.edge in
        let by : letter b k ≡ letter a k = ap (λ x. x % 16) e.edge in
        record {
          up = rw up C.up;
          over = rw by C.over;
          leads = e.node ∙ C.leads ∙ sym (ap₂ σ (ap b.node up ∙ f.node) by);
          deeper = e.depth ∙ C.deeper ∙ sym (ap suc (ap b.depth up ∙ f.depth));
        }

    placed_same : {c : ℕ} → Placed a n c → Placed b n c
    placed_same P = record { place = P.place; late = P.late; within = P.within; there = (same P.place P.within).node ∙ P.there }

    followed_same : (k m : ℕ) → k < n → Followed σ a n k m → Followed σ b n k m
    followed_same k m g F =
        let P = F.to in
        record {
          to = record { place = P.place; late = P.late; within = P.within; there = (same P.place P.within).node ∙ P.there ∙ sym (ap (λ c. σ c m) (same k g).node) };
          soon = rw (same P.place P.within).edge F.soon;
        }

    pub search_kept : Search σ L root seen b n h l
    search_kept = record {
      some = S.some;
      head = S.head;
      root_node = (same 0 S.some).node ∙ S.root_node;
      root_depth = (same 0 S.some).depth ∙ S.root_depth;
      child = child_same;
      once = λ i j g k m e. S.once i j g k m (sym (same i (omega arith)).node ∙ e ∙ (same j m).node);
      order = λ i j g k m. rw ((same i (omega arith)).edge, (same j m).edge) (S.order i j g k m);
      upto = λ k g m. rw (same k m).edge (S.upto k g m);
      flag = S.flag;
      seen_node = λ k g m. ap seen (same k m).node ∙ S.seen_node k g m;
      known = λ c e. placed_same (S.known c e);
      followed = λ k m g j. followed_same k m (omega arith) (S.followed k m g j);
    }

  -- ---- among N nodes there is room: a node that has not been seen leaves one of N + 1 places free
  pub place_free : {seen : ℕ → ℕ} {a : Places} {n h l : ℕ} (N : ℕ) → ((c m : ℕ) → σ c m < N) → Search σ L root seen a n h l → (c : ℕ) → c < N → seen c ≡ 0 → n ≤ N
  place_free {seen} {a} {n} N small S c hc new = go (dec_lt N n)
    where
      -- the nodes at the places from 1 on, and c after them
      pick : (i : ℕ) → Dec (i ≡ N) → ℕ
      pick i (yes e) = c
      pick i (no e) = a.node (suc i)

      f : ℕ → ℕ
      f i = pick i (ℕ_discrete i N)

      go : Dec (N < n) → n ≤ N
      go (no g) = omega arith
      go (yes g) = absurd (twice (pigeonhole N f (λ i m. pick_lt i m (ℕ_discrete i N))))
        where
          pick_lt : (i : ℕ) → i ≤ N → (d : Dec (i ≡ N)) → pick i d < N
          pick_lt i m (yes e) = hc
          pick_lt i m (no e) = rw (S.child (suc i) (omega arith) (omega arith)).leads (small (a.node (parent a (suc i))) (letter a (suc i)))

          apart : (i j : ℕ) → i < j → j ≤ N → (d : Dec (i ≡ N)) (e : Dec (j ≡ N)) → pick i d ≡ pick j e → ⊥
          apart i j m k (yes d) e p = omega arith
          apart i j m k (no d) (yes e) p = omega (arith, S.seen_node (suc i) (omega arith) (omega arith), ap seen p)
          apart i j m k (no d) (no e) p = S.once (suc i) (suc j) (omega arith) (omega arith) (omega arith) p

          twice : Twice f N → ⊥
          twice (i, j, m, k, e) = apart i j m k (ℕ_discrete i N) (ℕ_discrete j N) e
