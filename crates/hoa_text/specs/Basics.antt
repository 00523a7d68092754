-- DEFINITIONS, 1 of 8: what the others choose, count and compare with.
use Rattle.std.specs.Prelude.{Bool, true, false, ◌&&◌, List, [], ◌∷◌, ℕ, zero, suc, eqb}
use Rattle.std.proofs.Math.Option.{Option, none, some}

abbrev pub option : {A B : Type 0} → Option A → B → (A → B) → B
option none b f = b
option (some a) b f = f a

abbrev pub is_some : {A : Type 0} → Option A → Bool
is_some none = false
is_some (some a) = true

-- the first that there is among f 0, f 1, .., n of them
abbrev pub first : {A : Type 0} → ℕ → (ℕ → Option A) → Option A
first zero f = none
first (suc n) f = option (first n f) (f n) some

-- ---- bytes

-- two texts are the same, byte for byte
abbrev pub same : List ℕ → List ℕ → Bool
same [] [] = true
same [] (b ∷ r) = false
same (a ∷ w) [] = false
same (a ∷ w) (b ∷ r) = eqb a b && same w r

-- a text begins with the word w, byte for byte
abbrev pub begins : List ℕ → List ℕ → Bool
begins [] r = true
begins (a ∷ w) [] = false
begins (a ∷ w) (b ∷ r) = eqb a b && begins w r
