-- DEFINITIONS: the file by position. One loop over a single number, the position, for a step that hands out clause by clause. At each position
-- stands one clause, or none where group 3 or 4 leaves it out. That this is the file, in its order, is proved in `ByPosition`.
use Rattle.std.specs.Prelude.{◌&&◌, cond, List, [], ◌∷◌, ℕ, ◌+◌, ◌-◌, ◌*◌, ◌/◌, ◌%◌, ◌^◌, ltb, ℤ}
use Rattle.encoding.specs.Variables.{Task, Var}
use Rattle.encoding.specs.Clauses.{only, totality, initial, successor, extension, closure, exactly_one}

-- a loop over a positions, then another: what stands at x, in the second one counted from its own first
unfoldable pub then_at : {A : Type 0} (a : ℕ) → (ℕ → List A) → (ℕ → List A) → ℕ → List A
then_at a f g x = cond (ltb x a) (f x) (g (x - a))

module _ (T : Task) (num : Var → ℕ) where
  abbrev n : ℕ
  n = T.n

  abbrev L : ℕ
  L = T.reference.letters

  abbrev r : ℕ
  r = T.reference.states

  abbrev M : ℕ
  M = 2 ^ T.m

  abbrev S : ℕ
  S = 2 ^ T.reference.sets

  -- the positions of each group, and what stands at one, counted from the group's first
  abbrev pub size₁ : ℕ
  size₁ = n * L

  unfoldable pub at₁ : ℕ → List (List ℤ)
  at₁ x = totality T num (x / L) (x % L) ∷ []

  abbrev pub size₂ : ℕ
  size₂ = 1 + n * n * r * L

  unfoldable pub successors_at : ℕ → List (List ℤ)
  successors_at x = successor T num (x / L / r / n) (x / L / r % n) (x / L % r) (x % L) ∷ []

  unfoldable pub at₂ : ℕ → List (List ℤ)
  at₂ = then_at 1 (λ x. initial T num ∷ []) successors_at

  abbrev pub size₃ : ℕ
  size₃ = n * n * n * r * r * L * M * S * M

  unfoldable pub at₃ : ℕ → List (List ℤ)
  at₃ x =
      let a = x / M / S / M in
      let b = a / L / r / r in
      let u = a / L / r % r in
      let v = a / L % r in
      let l = a % L in
      only (T.kept u v && T.kept u (T.reference.step v l)) (extension T num (b / n / n) (b / n % n) (b % n) u v l (x / M / S % M) (x / M % S) (x % M))

  abbrev pub size₄ : ℕ
  size₄ = n * n * r * L * M * S * M

  unfoldable pub at₄ : ℕ → List (List ℤ)
  at₄ x =
      let a = x / M / S / M in
      let b = a / L / r in
      let v = a / L % r in
      let l = a % L in
      only (T.kept (T.reference.step v l) v && exactly_one T v l (x / M / S % M) (x / M % S) (x % M))
      (closure T num (b / n) (b % n) v l (x / M / S % M) (x / M % S) (x % M))

  -- all the positions, and what stands at one
  abbrev pub positions : ℕ
  positions = size₁ + (size₂ + (size₃ + size₄))

  unfoldable pub at_position : ℕ → List (List ℤ)
  at_position = then_at size₁ at₁ (then_at size₂ at₂ (then_at size₃ at₃ at₄))
