-- Begun for references with unreachable states, and cited by no contract yet: those to which a word leads from the start. The empty word leads to the start itself.
use Rattle.std.specs.Prelude.{ℕ, ◌<◌, Bool}
use Rattle.meaning.specs.Automata.{Aut}
use Rattle.meaning.specs.Components.{Leads, reaches}

-- "reachable from the start"
abbrev pub Reachable : Aut → ℕ → Type 0
Reachable A q = Leads A A.start q

-- the same as a test: `ReachableLaws.reachable_exact`
abbrev pub reachable : Aut → ℕ → Bool
reachable A q = reaches A A.start q

-- no state is unreachable
abbrev pub AllReachable : Aut → Type 0
AllReachable A = (q : ℕ) → q < A.states → Reachable A q

-- "lowest unreachable state"
pub record LowestUnreachable (A : Aut) (q : ℕ) : Type 0 where
  pub state : q < A.states
  pub unreachable : ¬ Reachable A q
  pub lower : (p : ℕ) → p < q → Reachable A p
