-- DEFINITIONS, 1 of 3: automata, runs and acceptance. They are Definition 1 of S. Baarir and A. Duret-Lutz, "SAT-based Minimization of
-- Deterministic ω-Automata" (LPAR 2015), whose words and letters stand in quotes.
use Rattle.std.specs.Prelude.{◌≡◌, Bool, true, false, ◌&&◌, ℕ, zero, suc, ◌≤◌, ◌<◌}
use Rattle.meaning.specs.Tests.{any, all}

-- ---- "a tuple ⟨Q, Σ, ι, δ, (F₁, .., Fₘ), 𝓕⟩"

-- The paper's DTωA. States, letters and acceptance sets are the numbers below the three counts. δ is deterministic and complete, so a
-- state and a letter name a transition: `step q l` is where it leads, and `marks q l` is its set "F̃(t)": i is in it if the transition
-- is in the acceptance set i. `accept` is 𝓕; a set of numbers is its test.
pub record Aut : Type 0 where
  pub states : ℕ
  pub letters : ℕ
  pub sets : ℕ
  pub start : ℕ
  pub step : ℕ → ℕ → ℕ
  pub marks : ℕ → ℕ → ℕ → Bool
  pub accept : (ℕ → Bool) → Bool

-- "ι ∈ Q", "δ ⊆ Q × Σ × Q", and "𝓕 : 2^[m] → 𝔹": it depends on the automaton's own sets only
pub record WellFormed (A : Aut) : Type 0 where
  pub start_lt : A.start < A.states
  pub step_lt : (q l : ℕ) → q < A.states → l < A.letters → A.step q l < A.states
  pub sets_owned : (S T : ℕ → Bool) → ((i : ℕ) → i < A.sets → S i ≡ T i) → A.accept S ≡ A.accept T

-- Generalized Büchi acceptance, the only one of document 01: every set is met infinitely often, and with 0 sets all runs are accepting.
unfoldable pub EverySet : Aut → Type 0
EverySet A = (S : ℕ → Bool) → A.accept S ≡ all A.sets S

-- ---- "an infinite sequence of connected transitions such that q₁ = ι"

-- an infinite word: its letters, from letter 0 on
abbrev pub Word : Type 0
Word = ℕ → ℕ

-- the state after i letters of w
abbrev pub state : Aut → Word → ℕ → ℕ
state A w zero = A.start
state A w (suc i) = A.step (state A w i) (w i)

-- the transition that reads letter j of w is the one from q by l
abbrev pub Takes : Aut → Word → ℕ → ℕ → ℕ → Type 0
Takes A w j q l = (state A w j ≡ q) × (w j ≡ l)

-- ---- "Inf(ρ) denotes the subset of elements that occur infinitely often in ρ"

abbrev pub InfinitelyOften : Aut → Word → ℕ → ℕ → Type 0
InfinitelyOften A w q l = (n : ℕ) → (j : ℕ) × (n ≤ j) × Takes A w j q l

-- its contrary, said without a negation: from some place on the transition is not taken any more
abbrev pub FinitelyOften : Aut → Word → ℕ → ℕ → Type 0
FinitelyOften A w q l = (n : ℕ) × ((j : ℕ) → n ≤ j → ¬ Takes A w j q l)

-- The set Inf(ρ) of the run on w. By excluded middle every run has one; the proofs do without, and construct it on lasso words.
pub record Inf (A : Aut) (w : Word) : Type 0 where
  pub often : ℕ → ℕ → Bool
  pub inside : (q l : ℕ) → q < A.states → l < A.letters → often q l ≡ true → InfinitelyOften A w q l
  pub outside : (q l : ℕ) → q < A.states → l < A.letters → often q l ≡ false → FinitelyOften A w q l

-- "⋃ F̃(t) over t ∈ T", where T is the set of the transitions that `often` tells
abbrev pub union : Aut → (ℕ → ℕ → Bool) → ℕ → Bool
union A often i = any A.states (λ q. any A.letters (λ l. often q l && A.marks q l i))

-- "This run is accepting iff 𝓕(⋃ F̃(t) over t ∈ Inf(ρ)) = ⊤"
pub record Accepts (A : Aut) (w : Word) : Type 0 where
  pub inf : Inf A w
  pub accepted : A.accept (union A inf.often) ≡ true

-- ---- document 01's words for the same: "a set is met when the transition taken carries it"

-- the transition that reads letter j of w carries the set i
abbrev pub carries : Aut → Word → ℕ → ℕ → Bool
carries A w j i = A.marks (state A w j) (w j) i

abbrev pub MetInfinitelyOften : Aut → Word → ℕ → Type 0
MetInfinitelyOften A w i = (n : ℕ) → (j : ℕ) × (n ≤ j) × (carries A w j i ≡ true)

abbrev pub MetFinitelyOften : Aut → Word → ℕ → Type 0
MetFinitelyOften A w i = (n : ℕ) × ((j : ℕ) → n ≤ j → carries A w j i ≡ false)
