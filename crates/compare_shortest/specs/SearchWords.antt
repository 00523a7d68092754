-- The words that lead to the places of a breadth-first search: the first words to their nodes, in the order by length and then by letters.
use Rattle.std.specs.Prelude.{◌≡◌, refl, List, [], ◌∷◌, ◌++◌, ℕ, zero, suc, ◌/◌, ◌%◌, ◌≤◌, ◌<◌, length}
use Rattle.std.proofs.Common.{sym, ap, ◌∙◌, subst, le_refl, arith, length-append}
use Rattle.std.proofs.Math.Decide.{ℕ_discrete}
use Rattle.meaning.specs.Walk.{run}
use Rattle.meaning.specs.WalkLaws.{run_append}
use Rattle.meaning.specs.Agreement.{Over}
use Rattle.meaning.specs.LassoWord.{over_append}
use Rattle.compare_shortest.specs.Search.{Places, parent, letter, Search}

-- the last d letters of the way to the place k, as they are read back from edge to edge
abbrev pub back : (ℕ → ℕ) → ℕ → ℕ → List ℕ
back edge zero k = []
back edge (suc d) k = back edge d (edge k / 16) ++ (edge k % 16 ∷ [])

pub length_back : (edge : ℕ → ℕ) (d k : ℕ) → length (back edge d k) ≡ d
length_back edge zero k = refl
length_back edge (suc d) k = length-append (back edge d (edge k / 16)) (edge k % 16 ∷ []) ∙ omega (arith, length_back edge d (edge k / 16))

-- the word that leads to the place k
abbrev pub word : Places → ℕ → List ℕ
word a k = back a.edge (a.depth k) k

pub length_word : (a : Places) (k : ℕ) → length (word a k) ≡ a.depth k
length_word a k = length_back a.edge (a.depth k) k

module _ {σ : ℕ → ℕ → ℕ} {L root : ℕ} {seen : ℕ → ℕ} {a : Places} {n h l : ℕ} (S : Search σ L root seen a n h l) where
  -- what holds at the root, and at a place where it holds at its parent, holds at each place
  pub place_induction : (Q : ℕ → Type 0) → Q 0 → ((k : ℕ) → 0 < k → k < n → Q (parent a k) → Q k) → (k : ℕ) → k < n → Q k
  place_induction Q base step k g = within k k (le_refl k) g
    where
      within : (t k : ℕ) → k ≤ t → k < n → Q k
      within zero k m g = let e : 0 ≡ k = omega arith in subst Q e base
      within (suc t) k m g = go (ℕ_discrete 0 k) (λ i u v. within t i u v)
        where
          go : Dec (0 ≡ k) → ((i : ℕ) → i ≤ t → i < n → Q i) → Q k
          go (yes e) ih = subst Q e base
          go (no e) ih = let C = S.child k (omega arith) g in step k (omega arith) g (ih (parent a k) (omega (arith, C.up)) (omega (arith, C.up)))

  pub depth_le : (k : ℕ) → k < n → a.depth k ≤ k
  depth_le = place_induction (λ k. a.depth k ≤ k) (omega (arith, S.root_depth)) (λ k p g ih. (let C = S.child k p g in omega (arith, C.deeper, C.up)))

  pub word_root : word a 0 ≡ []
  word_root = ap (λ d. back a.edge d 0) S.root_depth

  pub word_child : (k : ℕ) → 0 < k → k < n → word a k ≡ word a (parent a k) ++ (letter a k ∷ [])
  word_child k p g = ap (λ d. back a.edge d k) (S.child k p g).deeper

  -- ---- SOUND: the word leads there
  pub word_over : (k : ℕ) → k < n → Over L (word a k)
  word_over = place_induction (λ k. Over L (word a k)) (subst (Over L) (sym word_root) tt)
      (λ k p g ih. subst (Over L) (sym (word_child k p g)) (over_append L (word a (parent a k)) (letter a k ∷ []) ih ((S.child k p g).over, tt)))

  pub word_run : (k : ℕ) → k < n → run σ root (word a k) ≡ a.node k
  word_run = place_induction (λ k. run σ root (word a k) ≡ a.node k) (ap (run σ root) word_root ∙ sym S.root_node)
      (λ k p g ih. ap (run σ root) (word_child k p g) ∙ run_append σ root (word a (parent a k)) (letter a k ∷ []) ∙ ap (λ c. σ c (letter a k)) ih ∙ sym (S.child k p g).leads)
