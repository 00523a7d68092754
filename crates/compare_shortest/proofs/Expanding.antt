-- The loop over the letters, which follows all the edges from a place.
use Rattle.std.specs.Prelude.{◌≡◌, refl, List, ℕ, ◌+◌, ◌-◌, ◌*◌, ◌≤◌, ◌<◌, set}
use Rattle.std.proofs.Common.{sym, ap, ◌∙◌, subst, arith, get_or-set_other}
use Rattle.compare_shortest.specs.Graph.{at, succ, Nodes}
use Rattle.compare_shortest.specs.Packing.{pack, node_of, depth_of}
use Rattle.compare_shortest.specs.State.{State, next_state}
use Rattle.compare_shortest.proofs.Entering.{enter_state}

-- it began with m places in the array `before`; the edges from h by the letters below l have been followed
pub record Expanding (D before seen places : List ℕ) (L root m n h l : ℕ) : Type 0 where
  pub state : State D seen places L root n h l
  pub here : h < m
  pub grown : m ≤ n
  pub upto : l ≤ L
  pub old : (k : ℕ) → k < m → at places k ≡ at before k

module _ {D before seen places : List ℕ} {L root m n h l : ℕ} (E : Expanding D before seen places L root m n h l) where
  abbrev p : ℕ
  p = at before h

  pub place_small : h < 65537
  place_small = omega (arith, E.here, E.grown, E.state.limit)

  pub expanded : L ≤ l → State D seen places L root n (h + 1) 0
  expanded g = next_state E.state (omega (arith, E.here, E.grown)) (omega (arith, E.upto))

  -- r is the number of places after the node c, which the letter l leads to, has been entered
  pub expand_one : {c d r : ℕ} {Seen-next places-next : List ℕ} → l < L → Nodes D → c ≡ succ D (node_of p) l → d ≡ depth_of p
      → Seen-next ≡ set seen c 1 → places-next ≡ set places n (pack c (h * 16 + l) (d + 1)) → r ≡ n + 1 - at seen c → Expanding D before Seen-next places-next L root m r h (l + 1)
  expand_one {c} {d} {r} {Seen-next} {places-next} hl nodes leads ed em ep er = rw (em, ep, er, ed) (record {
    state = subst (λ q. State D (set seen c 1) (set places n (pack c (h * 16 + l) (depth_of q + 1))) L root (n + 1 - at seen c) h (l + 1)) (E.old h E.here)
        (enter_state E.state (omega (arith, E.here, E.grown)) hl nodes c (leads ∙ sym (ap (λ q. succ D (node_of q) l) (E.old h E.here))));
    here = E.here;
    grown = omega (arith, E.grown, E.state.search.flag c);
    upto = omega arith;
    old = λ k g. get_or-set_other places n k (pack c (h * 16 + l) (depth_of p + 1)) 0 (omega (arith, E.grown)) ∙ E.old k g;
  })

pub expand_none : {D seen places : List ℕ} {L root n h : ℕ} → State D seen places L root n h 0 → h < n → Expanding D places seen places L root n n h 0
expand_none S hn = record { state = S; here = hn; grown = omega arith; upto = omega arith; old = λ k g. refl }
