-- A walk among N nodes can be made shorter than N.
use Rattle.std.specs.Prelude.{◌≡◌, refl, List, [], ◌∷◌, ◌++◌, ℕ, zero, suc, ◌≤◌, ◌<◌, length, take, drop}
use Rattle.std.proofs.Common.{sym, ap, ◌∙◌, subst, le_refl, arith, length-append, length-take, length-drop}
use Rattle.std.proofs.Math.Decide.{dec_lt}
use Rattle.meaning.specs.Pigeonhole.{Twice, pigeonhole}
use Rattle.meaning.specs.Walk.{run, Walk}
use Rattle.meaning.specs.WalkLaws.{run_append, run_split, walk_append, walk_take, walk_drop}

-- The nodes that a walk in E from a node of Ok can reach are numbered, below N.
pub record Numbered {Q : Type 0} (σ : Q → ℕ → Q) (E : Q → ℕ → Type 0) (N : ℕ) : Type 1 where
  pub Ok : Q → Type 0
  pub code : Q → ℕ
  pub closed : (q : Q) (l : ℕ) → Ok q → E q l → Ok (σ q l)
  pub small : (q : Q) → Ok q → code q < N
  pub same : (p q : Q) → Ok p → Ok q → code p ≡ code q → p ≡ q

pub restrict : {Q : Type 0} {σ : Q → ℕ → Q} {E : Q → ℕ → Type 0} {N : ℕ} (G : Numbered σ E N) (F : Q → ℕ → Type 0) → ((q : Q) (l : ℕ) → F q l → E q l) → Numbered σ F N
restrict G F f = record { Ok = G.Ok; code = G.code; closed = λ q l o e. G.closed q l o (f q l e); small = G.small; same = G.same }

pub restrict_ok : {Q : Type 0} {σ : Q → ℕ → Q} {E : Q → ℕ → Type 0} {N : ℕ} (G : Numbered σ E N) (F : Q → ℕ → Type 0) (f : (q : Q) (l : ℕ) → F q l → E q l) (q : Q) → G.Ok q → (restrict G F f).Ok q
unfolding restrict
restrict_ok G F f q o = o

module _ {Q : Type 0} (σ : Q → ℕ → Q) {E : Q → ℕ → Type 0} {N : ℕ} (G : Numbered σ E N) where
  pub ok_run : (q : Q) (w : List ℕ) → G.Ok q → Walk σ E q w → G.Ok (run σ q w)
  ok_run q [] o a = o
  ok_run q (l ∷ w) o a = ok_run (σ q l) w (G.closed q l o a.0) a.1

  -- a walk in E from q to the node that w leads to
  pub record Shortened (q : Q) (w : List ℕ) (n : ℕ) : Type 0 where
    pub word : List ℕ
    pub walk : Walk σ E q word
    pub to : run σ q word ≡ run σ q w
    pub size : length word < n

  cut_at : (q : Q) (w : List ℕ) (i j : ℕ) → i < j → j ≤ length w → Walk σ E q w → run σ q (take i w) ≡ run σ q (take j w) → Shortened q w (length w)
  cut_at q w i j h k a e = record {
    word = take i w ++ drop j w;
    walk = walk_append σ E q (take i w) (drop j w) (walk_take σ E q i w a) (subst (λ p. Walk σ E p (drop j w)) (sym e) (walk_drop σ E q j w a));
    to = run_append σ q (take i w) (drop j w) ∙ ap (λ p. run σ p (drop j w)) e ∙ run_split σ q j w;
    size = simp (length-append, length-take, length-drop) (omega arith);
  }

  -- a word of N letters or more passes some node twice
  cut : (q : Q) (w : List ℕ) → G.Ok q → Walk σ E q w → N ≤ length w → Shortened q w (length w)
  cut q w o a h = go (pigeonhole N (λ i. G.code (run σ q (take i w))) (λ i l. G.small (run σ q (take i w)) (ok i)))
    where
      ok : (i : ℕ) → G.Ok (run σ q (take i w))
      ok i = ok_run q (take i w) o (walk_take σ E q i w a)

      go : Twice (λ i. G.code (run σ q (take i w))) N → Shortened q w (length w)
      go (i, j, l, m, e) = cut_at q w i j l (omega arith) a (G.same (run σ q (take i w)) (run σ q (take j w)) (ok i) (ok j) e)

  short_within : (n : ℕ) (q : Q) (w : List ℕ) → length w ≤ n → G.Ok q → Walk σ E q w → Shortened q w N
  short_within zero q [] h o a = record { word = []; walk = tt; to = refl; size = omega (arith, G.small q o) }
  short_within zero q (l ∷ w) h o a = absurd (omega arith)
  short_within (suc n) q w h o a = go (dec_lt (length w) N) (λ v k b. short_within n q v k o b)
    where
      go : Dec (length w < N) → ((v : List ℕ) → length v ≤ n → Walk σ E q v → Shortened q v N) → Shortened q w N
      go (yes l) ih = record { word = w; walk = a; to = refl; size = l }
      go (no l) ih =
          let c = cut q w o a (omega arith) in
          let s = ih c.word (omega arith) c.walk in
          record { word = s.word; walk = s.walk; to = s.to ∙ c.to; size = s.size }

  pub short : (q : Q) (w : List ℕ) → G.Ok q → Walk σ E q w → Shortened q w N
  short q w o a = short_within (length w) q w (le_refl (length w)) o a
