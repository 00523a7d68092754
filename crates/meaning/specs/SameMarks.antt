-- A closed walk can be made short with the same marks seen: in the product of two automata, with N nodes, no longer than
-- (sets of A + sets of B + 1) N.
use Rattle.std.specs.Prelude.{◌≡◌, refl, ◌≢◌, ◌⊎◌, List, [], ◌∷◌, Bool, true, false, not, ◌||◌, ℕ, suc, ◌+◌, ◌-◌, ◌*◌, ◌≤◌, ◌<◌, length}
use Rattle.std.proofs.Common.{sym, ◌∙◌, inl, inr, arith}
use Rattle.std.proofs.Math.Path.{ap}
use Rattle.std.proofs.lemmas.Bool.{false≢true}
use Rattle.std.proofs.Math.Nat.{add-sub_cancel_left}
use Rattle.std.proofs.Math.Decide.{dec_lt}
use Rattle.meaning.specs.TestLaws.{or_left, or_right, or_cases, same_truth}
use Rattle.meaning.specs.Walk.{run, Walk, meets}
use Rattle.meaning.specs.WalkLaws.{walk_map}
use Rattle.meaning.specs.ShortWalk.{Numbered, restrict, restrict_ok}
use Rattle.meaning.specs.Tour.{Tour, tour}
use Rattle.meaning.specs.Automata.{Aut}
use Rattle.meaning.specs.Agreement.{Comparable, Over}
use Rattle.meaning.specs.Run.{after, seen}
use Rattle.meaning.specs.ClosedLoop.{Closed}
use Rattle.meaning.specs.Product.{Node, both, run_both, meets_fst, meets_snd, numbered, after_ok, over_walk, walk_over}

-- ---- a closed walk in any graph, with marks

module _ {Q : Type 0} (σ : Q → ℕ → Q) (E : Q → ℕ → Type 0) (mark : ℕ → Q → ℕ → Bool) (P : ℕ → Type 0) where
  -- a step of E with marks of P only
  abbrev pub Within : Q → ℕ → Type 0
  Within q l = E q l × ((i : ℕ) → mark i q l ≡ true → P i)

  walk_within : (q : Q) (w : List ℕ) → Walk σ E q w → ((i : ℕ) → meets σ (mark i) q w ≡ true → P i) → Walk σ Within q w
  walk_within q [] a h = tt
  walk_within q (l ∷ w) a h =
      ((a.0, λ i m. h i (or_left (meets σ (mark i) (σ q l) w) m)), walk_within (σ q l) w a.1 (λ i m. h i (or_right (mark i q l) m)))

  within_meets : (q : Q) (w : List ℕ) → Walk σ Within q w → (i : ℕ) → meets σ (mark i) q w ≡ true → P i
  within_meets q [] a i m = absurd (false≢true m)
  within_meets q (l ∷ w) a i m = go (or_cases (mark i q l) (meets σ (mark i) (σ q l) w) m) (λ g. within_meets (σ q l) w a.1 i g)
    where
      go : (mark i q l ≡ true) ⊎ (meets σ (mark i) (σ q l) w ≡ true) → (meets σ (mark i) (σ q l) w ≡ true → P i) → P i
      go (inl g) ih = a.0.1 i g
      go (inr g) ih = ih g

module _ {Q : Type 0} (σ : Q → ℕ → Q) {E : Q → ℕ → Type 0} {N : ℕ} (G : Numbered σ E N) (mark : ℕ → Q → ℕ → Bool) (n : Q) where
  -- a step that has the mark i, if b
  abbrev wanted : (ℕ → Bool) → ℕ → Q → ℕ → Bool
  wanted b i q l = not (b i) || mark i q l

  -- a closed walk with the same marks below k as y has
  pub record Same (k : ℕ) (y : List ℕ) : Type 0 where
    pub word : List ℕ
    pub some : word ≢ []
    pub walk : Walk σ E n word
    pub back : run σ n word ≡ n
    pub same : (i : ℕ) → i < k → meets σ (mark i) n word ≡ meets σ (mark i) n y
    pub size : length word ≤ suc k * N

  pub same_marks : G.Ok n → (k : ℕ) (y : List ℕ) → y ≢ [] → Walk σ E n y → run σ n y ≡ n → Same k y
  same_marks ok k [] ne a back = absurd (ne refl)
  same_marks ok k (l ∷ v) ne a back = record {
    word = t.word;
    some = t.some;
    walk = walk_map σ F E (λ q c e. e.0) n t.word t.walk;
    back = t.back;
    same = λ i h. same_truth (meets σ (mark i) n t.word) (b i)
        (within_meets σ E mark (λ j. b j ≡ true) n t.word t.walk i)
        (λ e. sym (ap (λ c. meets σ (λ q k. not c || mark i q k) n t.word) e) ∙ t.met i h);
    size = t.size;
  }
    where
      b : ℕ → Bool
      b i = meets σ (mark i) n (l ∷ v)

      F : Q → ℕ → Type 0
      F = Within σ E mark (λ i. b i ≡ true)

      met_y : (i : ℕ) (c : Bool) → b i ≡ c → meets σ (wanted b i) n (l ∷ v) ≡ true
      met_y i true e = ap (λ c. meets σ (λ q k. not c || mark i q k) n (l ∷ v)) e ∙ e
      met_y i false e = ap (λ c. meets σ (λ q k. not c || mark i q k) n (l ∷ v)) e

      t : Tour σ (restrict G F (λ q c e. e.0)) (wanted b) n (restrict_ok G F (λ q c e. e.0) n ok) k
      t =
          tour σ (restrict G F (λ q c e. e.0)) (wanted b) n (restrict_ok G F (λ q c e. e.0) n ok) k (l ∷ v) ne
          (walk_within σ E mark (λ i. b i ≡ true) n (l ∷ v) a (λ i m. m)) back (λ i h. met_y i (b i) refl)

-- ---- the product

-- the sets of A, and then the sets of B, in one row
module _ (A B : Aut) where
  mark_of : (i : ℕ) → Dec (i < A.sets) → Node → ℕ → Bool
  mark_of i (yes h) m l = A.marks m.0 l i
  mark_of i (no h) m l = B.marks m.1 l (i - A.sets)

  joint : ℕ → Node → ℕ → Bool
  joint i = mark_of i (dec_lt i A.sets)

  joint_A : (n : Node) (w : List ℕ) (i : ℕ) → i < A.sets → meets (both A B) (joint i) n w ≡ seen A n.0 w i
  unfolding joint mark_of
  joint_A n w i h = go (dec_lt i A.sets)
    where
      go : (d : Dec (i < A.sets)) → meets (both A B) (mark_of i d) n w ≡ seen A n.0 w i
      go (yes g) = meets_fst A B (λ q l. A.marks q l i) n w
      go (no g) = absurd (g h)

  joint_B : (n : Node) (w : List ℕ) (j : ℕ) → meets (both A B) (joint (A.sets + j)) n w ≡ seen B n.1 w j
  unfolding joint mark_of
  joint_B n w j = go (dec_lt (A.sets + j) A.sets)
    where
      go : (d : Dec (A.sets + j < A.sets)) → meets (both A B) (mark_of (A.sets + j) d) n w ≡ seen B n.1 w j
      go (yes g) = absurd (omega arith)
      go (no g) = meets_snd A B (λ q l. B.marks q l (A.sets + j - A.sets)) n w ∙ ap (seen B n.1 w) (add-sub_cancel_left A.sets j)

-- v, after x, is a closed walk with the same sets seen as along y
pub record SameSeen (A B : Aut) (x y v : List ℕ) : Type 0 where
  pub over : Over A.letters v
  pub some : v ≢ []
  pub closed_A : Closed A x v
  pub closed_B : Closed B x v
  pub same_A : (i : ℕ) → i < A.sets → seen A (after A x) v i ≡ seen A (after A x) y i
  pub same_B : (i : ℕ) → i < B.sets → seen B (after B x) v i ≡ seen B (after B x) y i

pub same_seen : {A B : Aut} → Comparable A B → (x y : List ℕ) → Over A.letters x → Over A.letters y → y ≢ [] → Closed A x y → Closed B x y
    → (v : List ℕ) × SameSeen A B x y v × (length v ≤ suc (A.sets + B.sets) * (A.states * B.states))
same_seen {A} {B} C x y ox oy ne ca cb = (
  s.word,
  record {
    over = walk_over (both A B) Letter A.letters (λ m l h. h) n s.word s.walk;
    some = s.some;
    closed_A = ap (λ m. m.0) r;
    closed_B = ap (λ m. m.1) r;
    same_A = λ i h. sym (joint_A A B n s.word i h) ∙ s.same i (omega arith) ∙ joint_A A B n y i h;
    same_B = λ i h. sym (joint_B A B n s.word i) ∙ s.same (A.sets + i) (omega arith) ∙ joint_B A B n y i;
  },
  s.size,
)
  where
    n : Node
    n = (after A x, after B x)

    Letter : Node → ℕ → Type 0
    Letter m l = l < A.letters

    s : Same (both A B) (numbered C Letter (λ m l h. h)) (joint A B) n (A.sets + B.sets) y
    s =
        same_marks (both A B) (numbered C Letter (λ m l h. h)) (joint A B) n (after_ok C Letter (λ m l h. h) x ox) (A.sets + B.sets) y ne
        (over_walk (both A B) A.letters n y oy) (run_both A B n y ∙ (λ i. (ca i, cb i)))

    r : (run A.step (after A x) s.word, run B.step (after B x) s.word) ≡ n
    r = sym (run_both A B n s.word) ∙ s.back
