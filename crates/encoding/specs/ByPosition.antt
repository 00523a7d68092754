-- THE FILE IS ITS POSITIONS, one after another: the loops of its groups are one loop, and at each position stands one clause at most.
use Rattle.std.specs.Prelude.{◌≡◌, Bool, ℕ, ◌+◌, ◌-◌, ◌*◌, ◌^◌, ◌≤◌, ltb}
use Rattle.std.proofs.Math.Path.{sym, ap, ap₂}
use Rattle.std.proofs.Common.{◌∙◌, le-add_right, lt-ltb, le-ltb}
use Rattle.std.proofs.Math.Bool.{true, false, cond}
use mathlib.Core.List.{List, [], ◌∷◌, ◌++◌}
use Rattle.std.proofs.Math.Nat.{le_refl, add-sub_cancel_left}
use Rattle.std.proofs.Math.ListN.{length}
use Rattle.encoding.specs.Variables.{Task, Var}
use Rattle.encoding.specs.Clauses.{each, initial, group₁, group₂, group₃, group₄, file}
use Rattle.encoding.specs.Loops.{each_same, each_add, each_each, only_most_one}
use Rattle.encoding.specs.Positions.{then_at, size₁, at₁, size₂, successors_at, at₂, size₃, at₃, size₄, at₄, positions, at_position}

module _ {A : Type 0} where
  each_then : (a b : ℕ) (f g : ℕ → List A) → each a f ++ each b g ≡ each (a + b) (then_at a f g)
  unfolding then_at
  each_then a b f g =
      ap₂ ◌++◌ (each_same a f _ (λ i h. sym (ap (λ (t : Bool). cond t (f i) (g (i - a))) (lt-ltb _ _ h))))
      (each_same b g _ (λ i h. sym (ap₂ (λ (t : Bool) (x : ℕ). cond t (f (a + i)) (g x)) (le-ltb _ _ (le-add_right a i)) (add-sub_cancel_left a i))))
      ∙ sym (each_add a b (then_at a f g))

  then_most_one : (a : ℕ) (f g : ℕ → List A) → ((x : ℕ) → length (f x) ≤ 1) → ((x : ℕ) → length (g x) ≤ 1) → (x : ℕ) → length (then_at a f g x) ≤ 1
  unfolding then_at
  then_most_one a f g hf hg x = go (ltb x a)
    where
      go : (b : Bool) → length (cond b (f x) (g (x - a))) ≤ 1
      go true = hf x
      go false = hg (x - a)

module _ (T : Task) (num : Var → ℕ) where
  abbrev n : ℕ
  n = T.n

  abbrev L : ℕ
  L = T.reference.letters

  abbrev r : ℕ
  r = T.reference.states

  abbrev M : ℕ
  M = 2 ^ T.m

  abbrev S : ℕ
  S = 2 ^ T.reference.sets

  by_position₁ : group₁ T num ≡ each (size₁ T num) (at₁ T num)
  unfolding group₁ at₁
  by_position₁ = each_each n L _

  by_position₂ : group₂ T num ≡ each (size₂ T num) (at₂ T num)
  unfolding group₂ at₂ successors_at each
  by_position₂ =
      ap (λ cs. initial T num ∷ cs) (each_each n n _ ∙ each_each (n * n) r _ ∙ each_each (n * n * r) L _)
      ∙ each_then 1 (n * n * r * L) (λ x. initial T num ∷ []) (successors_at T num)

  by_position₃ : group₃ T num ≡ each (size₃ T num) (at₃ T num)
  unfolding group₃ at₃
  by_position₃ =
      each_each n n _ ∙ each_each (n * n) n _ ∙ each_each (n * n * n) r _ ∙ each_each (n * n * n * r) r _ ∙ each_each (n * n * n * r * r) L _
      ∙ each_each (n * n * n * r * r * L) M _ ∙ each_each (n * n * n * r * r * L * M) S _ ∙ each_each (n * n * n * r * r * L * M * S) M _

  by_position₄ : group₄ T num ≡ each (size₄ T num) (at₄ T num)
  unfolding group₄ at₄
  by_position₄ =
      each_each n n _ ∙ each_each (n * n) r _ ∙ each_each (n * n * r) L _
      ∙ each_each (n * n * r * L) M _ ∙ each_each (n * n * r * L * M) S _ ∙ each_each (n * n * r * L * M * S) M _

  pub by_position : file T num ≡ each (positions T num) (at_position T num)
  unfolding file at_position
  by_position =
      ap₂ ◌++◌ by_position₁ (ap₂ ◌++◌ by_position₂ (ap₂ ◌++◌ by_position₃ by_position₄ ∙ each_then (size₃ T num) (size₄ T num) (at₃ T num) (at₄ T num)) ∙ each_then (size₂ T num) _ (at₂ T num) _) ∙ each_then (size₁ T num) _ (at₁ T num) _

  pub at_most_one : (x : ℕ) → length ((at_position T num) x) ≤ 1
  unfolding at_position at₁ at₂ successors_at at₃ at₄
  at_most_one =
      then_most_one _ _ _ (λ x. le_refl 1)
      (then_most_one _ _ _ (then_most_one _ _ _ (λ x. le_refl 1) (λ x. le_refl 1)) (then_most_one _ _ _ (λ x. only_most_one _ _) (λ x. only_most_one _ _)))
