-- DEFINITIONS of strongly connected components: two states lie in one if each reaches the other. A lone state is one of its own, by the empty word.
use Rattle.std.specs.Prelude.{◌≡◌, Bool, true, ◌&&◌, List, ℕ, eqb}
use Rattle.meaning.specs.Automata.{Aut}
use Rattle.meaning.specs.Agreement.{Over}
use Rattle.meaning.specs.Walk.{run}
use Rattle.meaning.specs.Reach.{reach}

-- u reaches v: some word leads from u to v
abbrev pub Leads : Aut → ℕ → ℕ → Type 0
Leads A u v = (w : List ℕ) × Over A.letters w × (run A.step u w ≡ v)

-- the same as a test, over words of at most as many letters as there are states: `ComponentLaws.reaches_exact`
unfoldable pub reaches : Aut → ℕ → ℕ → Bool
reaches A u v = reach A.step A.letters (λ q l. true) (λ q. eqb q v) A.states u

-- u and v lie in one component
unfoldable pub together : Aut → ℕ → ℕ → Bool
together A u v = reaches A u v && reaches A v u
