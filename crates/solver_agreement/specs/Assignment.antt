-- DEFINITION: which assignment a solver text states, as in "The words of demand 3".
use Rattle.std.specs.Prelude.{◌≡◌, Bool, false, ◌||◌, List, [], ◌∷◌, ℕ, ◌≤◌, ◌<◌, eqb, ℤ, pos, negsuc}
use Rattle.solver_scan.specs.declared.Verdict.TheVariants.{Satisfiable}
use Rattle.solver_scan.specs.SolverText.{Seen, gives, outcome}

-- the variable v is named without a minus
abbrev pub asserted : ℕ → List ℤ → Bool
asserted v [] = false
asserted v (pos k ∷ ls) = eqb k v || asserted v ls
asserted v (negsuc k ∷ ls) = asserted v ls

-- "A solver text states it if neither 9 nor 10 turns the text down, the verdict is SATISFIABLE, and the step and mark variables named
-- without a minus are just those it says yes to"
pub record States (last kept : ℕ) (text : List ℕ) (assignment : ℕ → Bool) : Type 0 where
  pub seen : Seen
  pub accepted : outcome last kept text ≡ gives seen
  pub verdict : seen.verdict ≡ Satisfiable
  pub named : (v : ℕ) → 0 < v → v ≤ kept → assignment v ≡ asserted v seen.literals
