-- DEFINITION, 2 of 2: what a search for the first of several words answers.
use Rattle.std.specs.Prelude.{◌≡◌, List, ◌++◌, ℕ, ◌≤◌, length, drop}
use Rattle.meaning.specs.FirstWord.{Precedes}
use Rattle.compare_shortest.specs.declared.Verdict.{Verdict}
use Rattle.compare_shortest.specs.declared.Verdict.TheVariants.{Same, Differ, Unfit}

-- Q holds of prefixes and loops that show a difference. Of those, the ones that fit buffers of p and l bytes:
pub record Within (p l : ℕ) (Q : List ℕ → List ℕ → Type 0) (x y : List ℕ) : Type 0 where
  pub shows : Q x y
  pub prefix_fits : length x ≤ p
  pub loop_fits : length y ≤ l

-- the first of all words of Q, of p and l letters, stands in the front of two buffers, and the rest of them is as it was
pub record Found (Q : List ℕ → List ℕ → Type 0) (prefix written-prefix cycle written-cycle : List ℕ) (p l : ℕ) : Type 0 where
  pub x : List ℕ
  pub y : List ℕ
  pub prefix_length : length x ≡ p
  pub loop_length : length y ≡ l
  pub prefix_written : written-prefix ≡ x ++ drop p prefix
  pub loop_written : written-cycle ≡ y ++ drop l cycle
  pub shows : Q x y
  pub best : (u v : List ℕ) → Q u v → Precedes x y u v

-- the answer to a search, which is made of two automata only, and the two buffers before and after
abbrev pub Answer : (List ℕ → List ℕ → Type 0) → List ℕ → List ℕ → List ℕ → List ℕ → Verdict → Type 0
Answer Q prefix written-prefix cycle written-cycle Same = ((x y : List ℕ) → ¬ Q x y) × (written-prefix ≡ prefix) × (written-cycle ≡ cycle)
Answer Q prefix written-prefix cycle written-cycle (Differ p l) = Found Q prefix written-prefix cycle written-cycle p l
Answer Q prefix written-prefix cycle written-cycle Unfit = ⊥

-- the answer on all input: tables that are not those of two automata are unfit, and both buffers as they were
pub record Answered (Fits : Type 0) (Q : List ℕ → List ℕ → Type 0) (prefix written-prefix cycle written-cycle : List ℕ) (r : Verdict) : Type 0 where
  pub unfit : ¬ Fits → (r ≡ Unfit) × (written-prefix ≡ prefix) × (written-cycle ≡ cycle)
  pub searched : Fits → Answer (Within (length prefix) (length cycle) Q) prefix written-prefix cycle written-cycle r
