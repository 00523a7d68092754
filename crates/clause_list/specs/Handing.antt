-- DEFINITION: what the function that looks for the next clause leaves in the buffer and returns.
use Rattle.std.specs.Prelude.{◌≡◌, List, ℕ, ◌<◌, ℤ, Option, Some, None}
use Rattle.decimal.specs.Wrote.{Wrote}
use Rattle.clause_list.specs.declared.next.Next.{Next}
use Rattle.clause_list.specs.Next.{Found, handed, ended}

-- y is the position that is handed back
abbrev pub HandsAt : Found → List ℤ → List ℤ → (y : ℕ) → Option ℕ → Type 0
HandsAt f d e y (Some k) = (c : List ℤ) × (f ≡ handed c y) × Wrote d 0 c e k × (0 < k)
HandsAt f d e y None = (f ≡ ended y) × (e ≡ d)

abbrev pub Hands : Found → List ℤ → List ℤ → Next → Type 0
Hands f d e r = HandsAt f d e r.position r.length
