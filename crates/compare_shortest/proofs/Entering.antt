-- The edge from h by l is followed, in arrays.
use Rattle.std.specs.Prelude.{◌≡◌, List, ℕ, suc, ◌+◌, ◌-◌, ◌*◌, ◌≤◌, ◌<◌, set}
use Rattle.std.proofs.Common.{sym, ap, ◌∙◌, subst, add-one, arith, length-set, get_or-set_same, get_or-set_other}
use Rattle.std.proofs.Math.Decide.{ℕ_discrete}
use Rattle.std.proofs.lemmas.List.{set-get_or}
use Rattle.compare_shortest.specs.Graph.{at, succ, Nodes, succ_lt}
use Rattle.compare_shortest.specs.Search.{Search, SameAt, search_kept, place_free}
use Rattle.compare_shortest.specs.Packing.{pack, node_of, edge_of, depth_of, node_pack, edge_pack, depth_pack, view}
use Rattle.compare_shortest.specs.State.{State}
use Rattle.compare_shortest.proofs.SearchEdges.{edge_to_old, edge_to_new}

module _ {D seen places : List ℕ} {L root n h l : ℕ} (S : State D seen places L root n h l) (hn : h < n) where
  module _ (hl : l < L) (nodes : Nodes D) (c : ℕ) (leads : c ≡ succ D (node_of (at places h)) l) where
    c_lt : c < 65536
    c_lt = rw leads (succ_lt D nodes (node_of (at places h)) l)

    abbrev entry : ℕ
    entry = pack c (h * 16 + l) (depth_of (at places h) + 1)

    free : at seen c ≡ 0 → n ≤ 65536
    free = place_free (succ D) L root S.letters 65536 (succ_lt D nodes) S.search c c_lt

    here : at (set places n entry) n ≡ entry
    here = get_or-set_same places n entry 0 (omega (arith, S.places_size, S.limit))

    old : (k : ℕ) → k < n → at (set places n entry) k ≡ at places k
    old k g = get_or-set_other places n k entry 0 (omega arith)

    same : (k : ℕ) → k < n → SameAt (view places) (view (set places n entry)) k
    same k g = record { node = ap node_of (old k g); edge = ap edge_of (old k g); depth = ap depth_of (old k g) }

    stays : Search (succ D) L root (at seen) (view (set places n entry)) n h l
    stays = search_kept (succ D) L root S.letters S.search hn hl same

    target : c ≡ succ D (node_of (at (set places n entry) h)) l
    target = leads ∙ sym (ap (λ p. succ D (node_of p) l) (old h hn))

    to_new : at seen c ≡ 0 → Search (succ D) L root (at (set seen c 1)) (view (set places n entry)) (suc n) h (suc l)
    to_new z = edge_to_new (succ D) L root S.letters stays hn hl (sym (ap (at seen) target) ∙ z)
        (ap node_of here ∙ node_pack c (h * 16 + l) (depth_of (at places h) + 1) c_lt ∙ target)
        (ap edge_of here ∙ edge_pack c (h * 16 + l) (depth_of (at places h) + 1) c_lt edge_lt)
        (ap depth_of here ∙ depth_pack c (h * 16 + l) (depth_of (at places h) + 1) c_lt edge_lt ∙ add-one (depth_of (at places h)) ∙ ap (λ p. suc (depth_of p)) (sym (old h hn)))
        (ap (at (set seen c 1)) (sym target) ∙ get_or-set_same seen c 1 0 (omega (arith, S.seen_size, c_lt)))
        (λ k ne. get_or-set_other seen c k 1 0 (λ e. ne (e ∙ target)))
      where
        edge_lt : h * 16 + l < 1048576
        edge_lt = omega (arith, free z, S.letters)

    to_old : at seen c ≡ 1 → Search (succ D) L root (at (set seen c 1)) (view (set places n entry)) n h (suc l)
    to_old z = subst (λ s. Search (succ D) L root (at s) (view (set places n entry)) n h (suc l)) (sym (ap (set seen c) (sym z) ∙ set-get_or seen c 0))
        (edge_to_old (succ D) L root S.letters stays hn hl (sym (ap (at seen) target) ∙ z))

    flag_le : at seen c ≤ 1
    flag_le = S.search.flag c

    pub enter_state : State D (set seen c 1) (set places n entry) L root (n + 1 - at seen c) h (l + 1)
    enter_state = record {
      table_size = S.table_size;
      seen_size = length-set seen c 1 ∙ S.seen_size;
      places_size = length-set places n entry ∙ S.places_size;
      letters = S.letters;
      limit = limit_at (ℕ_discrete (at seen c) 0);
      search = rw (add-one l) (search_at (ℕ_discrete (at seen c) 0));
    }
      where
        limit_at : Dec (at seen c ≡ 0) → n + 1 - at seen c ≤ 65537
        limit_at (yes z) = omega (arith, free z)
        limit_at (no z) = omega (arith, S.limit)

        search_at : Dec (at seen c ≡ 0) → Search (succ D) L root (at (set seen c 1)) (view (set places n entry)) (n + 1 - at seen c) h (suc l)
        search_at (yes z) = let e : n + 1 - at seen c ≡ suc n = omega arith in rw e (to_new z)
        search_at (no z) = let f : at seen c ≡ 1 = omega (arith, flag_le) in let e : n + 1 - at seen c ≡ n = omega arith in rw e (to_old f)
