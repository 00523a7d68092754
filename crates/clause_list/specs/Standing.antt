-- What stands at a position of the file, group by group.
use Rattle.std.specs.Prelude.{◌≡◌, List, [], ◌∷◌, ℕ, ◌-◌, ◌/◌, ◌%◌, ◌≤◌, ◌<◌}
use Rattle.std.proofs.Math.Path.{refl, ap}
use Rattle.std.proofs.Common.{◌∙◌, subst, lt-ltb, le-ltb}
use Rattle.encoding.specs.Positions.{then_at, at₂, at₃, at₄, at_position}
use Rattle.clause_sizes.specs.declared.Sizes.{Sizes}
use Rattle.clause_sizes.specs.Numbers.{number_of}
use Rattle.clause_indices.specs.declared.extent.Extent.{Extent}
use Rattle.clause_list.specs.Tables.{task_of, Tables}
use Rattle.clause_list.specs.Groups.{totality_of, initial_of}
use Rattle.clause_indices.specs.Indices.{extensions, closures, ExtentOf}
use Rattle.clause_list.specs.Position.{successor_at, extensions_at, closure_at, at₁_is, initial_is, successor_is, at₃_is, at₄_is}

-- two loops one after the other
then_yes : {A : Type 0} {a x : ℕ} (f g : ℕ → List A) → x < a → then_at a f g x ≡ f x
unfolding then_at
then_yes f g h = rw (lt-ltb _ _ h)

then_no : {A : Type 0} {a x y : ℕ} (f g : ℕ → List A) → a ≤ x → y ≡ x - a → then_at a f g x ≡ g y
unfolding then_at
then_no f g h e = rw (le-ltb _ _ h, e)

module _ (z : Sizes) (start : ℕ) (destinations marks : List ℕ) {g : Extent} (tables : Tables z destinations marks) (k : ExtentOf z g) where
  pub at_first : {x : ℕ} → x < g.first → at_position (task_of z start destinations marks) (number_of z) x ≡ totality_of z (x / z.letters) (x % z.letters) z.candidate.states ∷ []
  unfolding at_position
  at_first {x} h = then_yes _ _ (subst (λ a. x < a) k.first_is h) ∙ at₁_is z start destinations marks x

  after_first : {x y : ℕ} → g.first ≤ x → y ≡ x - g.first → y < g.second → at_position (task_of z start destinations marks) (number_of z) x ≡ at₂ (task_of z start destinations marks) (number_of z) y
  unfolding at_position
  after_first {x} {y} h e l =
      then_no _ _ (subst (λ a. a ≤ x) k.first_is h) (subst (λ a. y ≡ x - a) k.first_is e) ∙ then_yes _ _ (subst (λ a. y < a) k.second_is l)

  pub at_initial : {x y : ℕ} → g.first ≤ x → y ≡ x - g.first → y < g.second → y < 1 → at_position (task_of z start destinations marks) (number_of z) x ≡ initial_of z start ∷ []
  unfolding at₂
  at_initial h e l f = after_first h e l ∙ then_yes _ _ f ∙ ap (λ c. c ∷ []) (initial_is z start destinations marks)

  pub at_successor : {x y : ℕ} → g.first ≤ x → y ≡ x - g.first → y < g.second → 1 ≤ y → at_position (task_of z start destinations marks) (number_of z) x ≡ successor_at z destinations (y - 1) ∷ []
  unfolding at₂
  at_successor {y} h e l f = after_first h e l ∙ then_no _ _ f refl ∙ successor_is z start destinations marks (y - 1)

  after_second : {x y t : ℕ} → g.first ≤ x → y ≡ x - g.first → g.second ≤ y → t ≡ y - g.second
      → at_position (task_of z start destinations marks) (number_of z) x ≡ then_at (extensions z) (at₃ (task_of z start destinations marks) (number_of z)) (at₄ (task_of z start destinations marks) (number_of z)) t
  unfolding at_position
  after_second {x} {y} {t} h e l f =
      then_no _ _ (subst (λ a. a ≤ x) k.first_is h) (subst (λ a. y ≡ x - a) k.first_is e)
      ∙ then_no _ _ (subst (λ a. a ≤ y) k.second_is l) (subst (λ a. t ≡ y - a) k.second_is f)

  pub at_extension : {x y t : ℕ} → g.first ≤ x → y ≡ x - g.first → g.second ≤ y → t ≡ y - g.second → t < g.third
      → at_position (task_of z start destinations marks) (number_of z) x ≡ extensions_at z destinations marks t
  at_extension {t} h e l f i =
      let j = subst (λ a. t < a) k.third_is i in
      after_second h e l f ∙ then_yes _ _ j ∙ at₃_is z start destinations marks tables t j

  pub at_closure : {x y t s : ℕ} → g.first ≤ x → y ≡ x - g.first → g.second ≤ y → t ≡ y - g.second → g.third ≤ t → s ≡ t - g.third → s < closures z
      → at_position (task_of z start destinations marks) (number_of z) x ≡ closure_at z destinations marks s
  at_closure {t} {s} h e l f i j m =
      after_second h e l f ∙ then_no _ _ (subst (λ a. a ≤ t) k.third_is i) (subst (λ a. s ≡ t - a) k.third_is j) ∙ at₄_is z start destinations marks tables s m
