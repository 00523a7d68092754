-- A search in arrays: for each node whether it has been seen, and for each place a number.
use Rattle.std.specs.Prelude.{◌≡◌, List, ℕ, ◌+◌, ◌≤◌, ◌<◌, length, set}
use Rattle.std.proofs.Common.{sym, ap, ◌∙◌, subst, add-one, arith, length-set, get_or-set_same}
use Rattle.compare_shortest.specs.Graph.{at, succ}
use Rattle.compare_shortest.specs.Search.{Search, root_alone, edges_followed}
use Rattle.compare_shortest.specs.SearchWords.{depth_le}
use Rattle.compare_shortest.specs.Packing.{node_of, depth_of, view}
use Rattle.compare_shortest.specs.Seen.{SeenAt}
use Rattle.compare_shortest.specs.Workspace.{Ready}

-- a search in progress, in arrays of the right lengths: n places, and the edges before that from h by l followed
pub record State (D seen places : List ℕ) (L root n h l : ℕ) : Type 0 where
  pub table_size : length D ≡ 4096
  pub seen_size : length seen ≡ 65536
  pub places_size : length places ≡ 65538
  pub letters : L ≤ 16
  pub limit : n ≤ 65537
  pub search : Search (succ D) L root (at seen) (view places) n h l

pub node_root : {D H seen places : List ℕ} {L : ℕ} → Ready D H seen places L → (v : ℕ) → v < 65536 → node_of (at (set places 0 v) 0) ≡ v
node_root {places = places} R v h = ap node_of (get_or-set_same places 0 v 0 (omega (arith, R.places_size))) ∙ omega arith

-- ---- the beginning: the node v at the place 0
pub begin : {D H seen places : List ℕ} {L : ℕ} → Ready D H seen places L → (v : ℕ) → v < 65536 → State D seen (set places 0 v) L v 1 0 0
begin {D} {H} {seen} {places} {L} R v hv = record {
  table_size = R.table_size;
  seen_size = R.seen_size;
  places_size = length-set places 0 v ∙ R.places_size;
  letters = R.letters;
  limit = omega arith;
  search = root_alone (succ D) L v R.letters (at seen) (view (set places 0 v)) (node_root R v hv) (ap depth_of (get_or-set_same places 0 v 0 (omega (arith, R.places_size))) ∙ omega arith) R.clear;
}

module _ {D seen places : List ℕ} {L root n h l : ℕ} (S : State D seen places L root n h l) (hn : h < n) where
  pub next_state : l ≡ L → State D seen places L root n (h + 1) 0
  next_state e = record {
    table_size = S.table_size;
    seen_size = S.seen_size;
    places_size = S.places_size;
    letters = S.letters;
    limit = S.limit;
    search = rw add-one (edges_followed (succ D) L root S.letters (rw e at S.search) hn);
  }

  pub depth_lt : depth_of (at places h) < 65537
  depth_lt = omega (arith, depth_le S.search h hn, S.limit)

-- ---- the root is the node at the place 0
pub re_root : {D seen places : List ℕ} {L root n h l : ℕ} → State D seen places L root n h l → State D seen places L (node_of (at places 0)) n h l
re_root {D} {seen} {places} {L} {root} {n} {h} {l} S = subst (λ r. State D seen places L r n h l) (sym S.search.root_node) S

pub at_root : {D s t p q : List ℕ} {L root n m h i l : ℕ} → State D s p L root n h l → State D t q L (node_of (at p 0)) m i 0 → State D t q L root m i 0
at_root {D} {s} {t} {p} {q} {L} {root} {n} {m} {h} {i} S T = subst (λ r. State D t q L r m i 0) S.search.root_node T

-- the nodes that a search has seen are those of its places
pub seen_places : {D seen places : List ℕ} {L root n h l : ℕ} → State D seen places L root n h l → SeenAt seen places 1 n
seen_places {seen = seen} S = record {
  size = S.seen_size;
  place = λ c ne. (let P = S.search.known c (omega (arith, S.search.flag c)) in (P.place, P.late, P.within, P.there));
}
