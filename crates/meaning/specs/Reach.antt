-- DEFINITION of `reach`: whether a walk leads from a node to a node that passes a test, as a computed answer.
use Rattle.std.specs.Prelude.{Bool, ◌&&◌, ◌||◌, ℕ, zero, suc}
use Rattle.meaning.specs.Tests.{any}

-- σ q l is the node that the letter l leads to from the node q; e lets the step pass
module _ {Q : Type 0} (σ : Q → ℕ → Q) (letters : ℕ) (e : Q → ℕ → Bool) (goal : Q → Bool) where
  -- some walk of at most k steps leads from q to a goal
  abbrev pub reach : ℕ → Q → Bool
  reach zero q = goal q
  reach (suc k) q = goal q || any letters (λ l. e q l && reach k (σ q l))
