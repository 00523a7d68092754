-- The loop of the search.
use Rattle.std.specs.Prelude.{◌≡◌, List, ℕ, ◌+◌, ◌≤◌, ◌<◌}
use Rattle.std.proofs.Common.{sym, ap, subst, arith}
use Rattle.std.proofs.Math.Decide.{dec_lt, ℕ_discrete}
use Rattle.compare_shortest.specs.Graph.{at, Hit}
use Rattle.compare_shortest.specs.Search.{parent}
use Rattle.compare_shortest.proofs.WordsRise.{depths_rise}
use Rattle.compare_shortest.specs.Packing.{node_of, depth_of, view}
use Rattle.compare_shortest.specs.State.{State}
use Rattle.compare_shortest.specs.FirstHit.{First, Missed, missed_none, first_none}
use Rattle.compare_shortest.specs.Explored.{Explored}

-- no hit among n places, and the edges from the places before h followed
pub record Exploring (D H seen places : List ℕ) (L root pair bound n h : ℕ) : Type 0 where
  pub state : State D seen places L root n h 0
  pub miss : Missed places H pair 1 n n
  pub near : (j : ℕ) → j < n → depth_of (at places j) ≤ bound

-- after one turn of it: k is the first place of a hit, or m
pub record Turned (D H seen places : List ℕ) (L root pair bound m k h : ℕ) : Type 0 where
  pub stop : k < m → Explored D H seen places L root pair bound m k
  pub go_on : m ≤ k → Exploring D H seen places L root pair bound m (h + 1)

pub exploring_root : {D H seen places : List ℕ} {L root pair : ℕ} (bound : ℕ) → State D seen places L root 1 0 0 → Exploring D H seen places L root pair bound 1 0
exploring_root {places = places} bound S = record {
  state = S;
  miss = missed_none (omega arith);
  near = λ j g. (let e : j ≡ 0 = omega arith in omega (arith, ap (λ i. depth_of (at places i)) e, S.search.root_depth));
}

module _ {D H seen places : List ℕ} {L root pair bound n h : ℕ} (E : Exploring D H seen places L root pair bound n h) where
  -- it stops, and no hit has been found
  stopped : (h < n → bound ≤ depth_of (at places h)) → Explored D H seen places L root pair bound n n
  stopped all = record { here = h; state = E.state; first = first_none E.miss (omega arith); near = E.near; all = λ z. all }

  pub stopped_far : bound ≤ depth_of (at places h) → Explored D H seen places L root pair bound n n
  stopped_far g = stopped (λ z. g)

  pub stopped_end : n ≤ h → Explored D H seen places L root pair bound n n
  stopped_end g = stopped (λ z. absurd (omega arith))

  -- the edges from h are followed, and k is the first new place of a hit, or m
  module _ {Seen-next places-next : List ℕ} {m k : ℕ} (here : h < n) (g : depth_of (at places h) < bound) (T : State D Seen-next places-next L root m (h + 1) 0) (grown : n ≤ m)
      (old : (j : ℕ) → j < n → at places-next j ≡ at places j) (F : First places-next H pair n m k) where
    first_of_all : First places-next H pair 1 m k
    first_of_all = record { low = omega (arith, F.low, E.state.search.some); high = F.high; before = λ j a b. go j a b (dec_lt j n); found = F.found }
      where
        go : (j : ℕ) → 1 ≤ j → j < k → Dec (j < n) → ¬ Hit H pair (node_of (at places-next j))
        go j a b (yes d) = subst (λ p. ¬ Hit H pair (node_of p)) (sym (old j d)) (E.miss.before j a d)
        go j a b (no d) = F.before j (omega arith) b

    -- the new places are one letter deeper than an old one
    near_all : (j : ℕ) → j < m → depth_of (at places-next j) ≤ bound
    near_all j z = go (ℕ_discrete j 0)
      where
        go : Dec (j ≡ 0) → depth_of (at places-next j) ≤ bound
        go (yes e) = omega (arith, ap (λ i. depth_of (at places-next i)) e, T.search.root_depth)
        go (no e) =
            let o : 0 < j = omega arith in
            let C = T.search.child j o z in
            let up = T.search.upto j o z in
            omega (arith, C.deeper, depths_rise T.search (parent (view places-next) j) h (omega arith) (omega arith), ap depth_of (old h here))

    pub stopped_hit : k < m → Explored D H Seen-next places-next L root pair bound m k
    stopped_hit z = record { here = h + 1; state = T; first = first_of_all; near = near_all; all = λ e. absurd (omega arith) }

    pub goes_on : m ≤ k → Exploring D H Seen-next places-next L root pair bound m (h + 1)
    goes_on z = record {
      state = T;
      miss = record { low = omega (arith, T.search.some); high = omega arith; before = λ j a b. first_of_all.before j a (omega arith) };
      near = near_all;
    }

    pub turn : Turned D H Seen-next places-next L root pair bound m k h
    turn = record { stop = stopped_hit; go_on = goes_on }
