-- The proof of `Tested`.
use Rattle.std.specs.Prelude.{◌≡◌, refl, ◌⊎◌, true, List, [], ◌∷◌, ℤ}
use Rattle.std.proofs.Common.{sym, subst, inl, inr, ⊎_elim}
use Rattle.std.proofs.lemmas.Bool.{false≢true}
use mathlib.Core.List.Memᴰ
use Rattle.meaning.specs.TestLaws.{or_cases, and_left, and_right}
use Rattle.encoding.specs.Clauses.{Assignment, holds, Satisfied, Satisfies}
use Rattle.decks.specs.Tested.{clause_tested, tested}

module _ (ν : Assignment) where
  clause_satisfied : (c : List ℤ) → clause_tested ν c ≡ true → Satisfied ν c
  clause_satisfied [] e = absurd (false≢true e)
  clause_satisfied (x ∷ c) e = go (or_cases (holds ν x) (clause_tested ν c) e) (λ f. clause_satisfied c f)
    where
      go : (holds ν x ≡ true) ⊎ (clause_tested ν c ≡ true) → (clause_tested ν c ≡ true → Satisfied ν c) → Satisfied ν (x ∷ c)
      go (inl h) later = (x, Memᴰ.head refl, h)
      go (inr h) later = let (y, k, f) = later h in (y, Memᴰ.tail k, f)

  pub tested_satisfies : (cs : List (List ℤ)) → tested ν cs ≡ true → Satisfies ν cs
  tested_satisfies [] e c k = absurd (Memᴰ.not-nil k)
  tested_satisfies (d ∷ cs) e c k =
      ⊎_elim
      (λ h. subst (Satisfied ν) (sym h) (clause_satisfied d (and_left (clause_tested ν d) (tested ν cs) e)))
      (tested_satisfies cs (and_right (clause_tested ν d) (tested ν cs) e) c)
      (Memᴰ.cases_cons k)
