-- A lasso word whose loop y leads A back to where the prefix x led it: A's answer on the word is its `verdict` on x and y. And the cycle
-- condition, `CyclesAgree`.
use Rattle.std.specs.Prelude.{◌≡◌, ◌≢◌, List, [], Bool, ℕ}
use Rattle.meaning.specs.Walk.{run}
use Rattle.meaning.specs.Automata.{Aut}
use Rattle.meaning.specs.Agreement.{Over}
use Rattle.meaning.specs.Run.{after, seen}

-- y leads back to the state that x leads to
abbrev pub Closed : Aut → List ℕ → List ℕ → Type 0
Closed A x y = run A.step (after A x) y ≡ after A x

-- what A says of the run that reads x and then goes round y
abbrev pub verdict : Aut → List ℕ → List ℕ → Bool
verdict A x y = A.accept (seen A (after A x) y)

-- on every closed walk of the product that is reached the two verdicts are equal
unfoldable pub CyclesAgree : Aut → Aut → Type 0
CyclesAgree A B = (x y : List ℕ) → Over A.letters x → Over A.letters y → y ≢ [] → Closed A x y → Closed B x y → verdict A x y ≡ verdict B x y
