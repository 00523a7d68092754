-- A closed walk that meets k kinds of step can be made no longer than (k + 1) N, among N nodes: go from kind to kind by short walks.
use Rattle.std.specs.Prelude.{◌≡◌, refl, ◌≢◌, Bool, true, false, ℕ, zero, suc, ◌*◌, ◌≤◌, ◌<◌, length}
use Rattle.std.proofs.Common.{sym, ap, ◌∙◌, subst, not-suc-le-zero, suc-mul, zero-mul, arith, length-append}
use mathlib.Core.List.{List, [], ◌∷◌, ◌++◌, cons≢nil}
use Rattle.std.proofs.lemmas.Bool.{false≢true}
use Rattle.std.proofs.Math.Decide.{ℕ_discrete}
use Rattle.meaning.specs.TestLaws.{or_left}
use Rattle.meaning.specs.Walk.{run, Walk, meets}
use Rattle.meaning.specs.WalkLaws.{run_append, walk_append, walk_left, walk_right, meets_left, meets_right, meets_split}
use Rattle.meaning.specs.ShortWalk.{Numbered, Shortened, short, ok_run}

module _ {Q : Type 0} (σ : Q → ℕ → Q) {E : Q → ℕ → Type 0} {N : ℕ} (G : Numbered σ E N) (kind : ℕ → Q → ℕ → Bool) (n : Q) (ok : G.Ok n) where
  -- a walk from n that meets the kinds below k, with a way home
  record Part (k : ℕ) : Type 0 where
    word : List ℕ
    walk : Walk σ E n word
    size : length word ≤ k * N
    met : (i : ℕ) → i < k → meets σ (kind i) n word ≡ true
    home : List ℕ
    home_walk : Walk σ E (run σ n word) home
    home_to : run σ (run σ n word) home ≡ n

  none : Part 0
  none = record { word = []; walk = tt; size = omega arith; met = λ i h. absurd (not-suc-le-zero h); home = []; home_walk = tt; home_to = refl }

  -- a closed walk from n with a step of kind i: along u, the step l, and back along v
  pub record Via (i : ℕ) : Type 0 where
    pub out : List ℕ
    pub letter : ℕ
    pub return : List ℕ
    pub walk : Walk σ E n (out ++ letter ∷ return)
    pub back : run σ n (out ++ letter ∷ return) ≡ n
    pub hit : kind i (run σ n out) letter ≡ true

  -- go home, on along u, and do the step l
  more : (k : ℕ) (p : Part k) (u : List ℕ) (l : ℕ) (v : List ℕ) → Walk σ E n (u ++ l ∷ v) → run σ n (u ++ l ∷ v) ≡ n → kind k (run σ n u) l ≡ true → Part (suc k)
  more k p u l v a back hit = record {
    word = p.word ++ leg;
    walk = walk_append σ E n p.word leg p.walk (walk_append σ E at s.word (l ∷ []) s.walk (rw here step.0, tt));
    size = simp (length-append, suc-mul) (omega (arith, s.size, p.size));
    met = λ i h. met_i i h (ℕ_discrete i k);
    home = v;
    home_walk = rw there step.1;
    home_to = ap (λ q. run σ q v) there ∙ sym (run_append σ n u (l ∷ v)) ∙ back;
  }
    where
      at : Q
      at = run σ n p.word

      s : Shortened σ G at (p.home ++ u) N
      s = short σ G at (p.home ++ u) (ok_run σ G n p.word ok p.walk)
          (walk_append σ E at p.home u p.home_walk (rw p.home_to (walk_left σ E n u (l ∷ v) a)))

      here : run σ at s.word ≡ run σ n u
      here = s.to ∙ run_append σ at p.home u ∙ ap (λ q. run σ q u) p.home_to

      step : E (run σ n u) l × Walk σ E (σ (run σ n u) l) v
      step = walk_right σ E n u (l ∷ v) a

      leg : List ℕ
      leg = s.word ++ l ∷ []

      there : run σ n (p.word ++ leg) ≡ σ (run σ n u) l
      there = run_append σ n p.word leg ∙ run_append σ at s.word (l ∷ []) ∙ ap (λ q. σ q l) here

      met_i : (i : ℕ) → i < suc k → Dec (i ≡ k) → meets σ (kind i) n (p.word ++ leg) ≡ true
      met_i i h (yes e) =
          meets_right σ (kind i) n p.word leg (meets_right σ (kind i) at s.word (l ∷ []) (or_left false (ap (λ q. kind i q l) here ∙ ap (λ j. kind j (run σ n u) l) e ∙ hit)))
      met_i i h (no e) = meets_left σ (kind i) n p.word leg (p.met i (omega arith))

  parts : (k : ℕ) → ((i : ℕ) → i < k → Via i) → Part k
  parts zero h = none
  parts (suc k) h = let t = h k (omega arith) in more k (parts k (λ i l. h i (omega arith))) t.out t.letter t.return t.walk t.back t.hit

  -- a closed walk from n that meets the kinds below k
  pub record Tour (k : ℕ) : Type 0 where
    pub word : List ℕ
    pub some : word ≢ []
    pub walk : Walk σ E n word
    pub back : run σ n word ≡ n
    pub met : (i : ℕ) → i < k → meets σ (kind i) n word ≡ true
    pub size : length word ≤ suc k * N

  -- from a closed walk of one step or more, and one for each kind
  pub tour_via : (k l : ℕ) (y : List ℕ) → Walk σ E n (l ∷ y) → run σ n (l ∷ y) ≡ n → ((i : ℕ) → i < k → Via i) → Tour k
  tour_via zero l y a back h =
      let s = short σ G (σ n l) y (G.closed n l ok a.0) a.1 in record {
        word = l ∷ s.word;
        some = cons≢nil;
        walk = (a.0, s.walk);
        back = s.to ∙ back;
        met = λ i g. absurd (not-suc-le-zero g);
        size = rw (suc-mul, zero-mul) (omega (arith, s.size));
      }
  tour_via (suc k) l y a back h =
      let p = parts (suc k) h in
      let s = short σ G (run σ n p.word) p.home (ok_run σ G n p.word ok p.walk) p.home_walk in
      let met : (i : ℕ) → i < suc k → meets σ (kind i) n (p.word ++ s.word) ≡ true = λ i g. meets_left σ (kind i) n p.word s.word (p.met i g) in record {
        word = p.word ++ s.word;
        some = λ e. false≢true (subst (λ w. meets σ (kind 0) n w ≡ true) e (met 0 (omega arith)));
        walk = walk_append σ E n p.word s.word p.walk s.walk;
        back = run_append σ n p.word s.word ∙ s.to ∙ p.home_to;
        met = met;
        size = rw (suc-mul (suc k) N) (simp length-append (omega (arith, s.size, p.size)));
      }

  -- a closed walk that meets kind i, taken apart
  pub via : (i : ℕ) (y : List ℕ) → Walk σ E n y → run σ n y ≡ n → meets σ (kind i) n y ≡ true → Via i
  via i y a back m =
      let (u, l, v, e, hit) = meets_split σ (kind i) n y m in
      record { out = u; letter = l; return = v; walk = subst (λ w. Walk σ E n w) e a; back = ap (λ w. run σ n w) (sym e) ∙ back; hit = hit }

  pub tour : (k : ℕ) (y : List ℕ) → y ≢ [] → Walk σ E n y → run σ n y ≡ n → ((i : ℕ) → i < k → meets σ (kind i) n y ≡ true) → Tour k
  tour k [] ne a back h = absurd (ne refl)
  tour k (l ∷ y) ne a back h = tour_via k l y a back (λ i g. via i (l ∷ y) a back (h i g))
