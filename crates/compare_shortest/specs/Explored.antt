-- Where a search stops: at the first hit, or when every node within some number of letters has been found.
use Rattle.std.specs.Prelude.{◌≡◌, List, ℕ, ◌≤◌, ◌<◌, length}
use Rattle.std.specs.Option.{unwrap_or}
use Rattle.std.proofs.Common.{Option, Some, None, subst, arith}
use Rattle.compare_shortest.specs.Graph.{at}
use Rattle.compare_shortest.specs.Packing.{depth_of}
use Rattle.compare_shortest.specs.Seen.{Clear}
use Rattle.compare_shortest.specs.Workspace.{Ready}
use Rattle.compare_shortest.specs.State.{State}
use Rattle.compare_shortest.specs.FirstHit.{First}

-- n places have been found, with words of at most `bound` letters; k is the first place of a hit, or n: then all words of so many letters have been tried
pub record Explored (D H seen places : List ℕ) (L root pair bound n k : ℕ) : Type 0 where
  pub here : ℕ
  pub state : State D seen places L root n here 0
  pub first : First places H pair 1 n k
  pub near : (j : ℕ) → j < n → depth_of (at places j) ≤ bound
  pub all : k ≡ n → here < n → bound ≤ depth_of (at places here)

-- the same, when the nodes that were seen have been forgotten
pub record Searched (D H places : List ℕ) (L root pair bound n k : ℕ) : Type 0 where
  pub seen : List ℕ
  pub explored : Explored D H seen places L root pair bound n k

pub searched : {D H seen places : List ℕ} {L root v pair bound n k : ℕ} → root ≡ v → Explored D H seen places L root pair bound n k → Searched D H places L v pair bound n k
searched {D} {H} {seen} {places} {L} {root} {v} {pair} {bound} {n} {k} e X = record { seen = seen; explored = subst (λ r. Explored D H seen places L r pair bound n k) e X }

-- where there is a hit, and where there is none
pub hit_some : {D H places : List ℕ} {L root pair bound n k : ℕ} {hit : Option ℕ} → hit ≡ Some k → Searched D H places L root pair bound n (unwrap_or hit n) → Searched D H places L root pair bound n k
hit_some {D} {H} {places} {L} {root} {pair} {bound} {n} e X = subst (λ o. Searched D H places L root pair bound n (unwrap_or o n)) e X

pub hit_none : {D H places : List ℕ} {L root pair bound n : ℕ} {hit : Option ℕ} → hit ≡ None → Searched D H places L root pair bound n (unwrap_or hit n) → Searched D H places L root pair bound n n
hit_none {D} {H} {places} {L} {root} {pair} {bound} {n} e X = subst (λ o. Searched D H places L root pair bound n (unwrap_or o n)) e X

-- the arrays can be used again
pub searched_ready : {D H seen places : List ℕ} {L root pair bound n k : ℕ} → Searched D H places L root pair bound n k → length H ≡ 256 → length seen ≡ 65536 → Clear seen → Ready D H seen places L
searched_ready X hits size none = let S = X.explored.state in record {
  table_size = S.table_size;
  hits_size = hits;
  seen_size = size;
  places_size = S.places_size;
  letters = S.letters;
  clear = none;
}

pub places_within : {D H places : List ℕ} {L root pair bound n k : ℕ} → Searched D H places L root pair bound n k → n ≤ length places
places_within X = let S = X.explored.state in omega (arith, S.limit, S.places_size)
