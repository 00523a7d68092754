-- The clauses as implications: an assignment satisfies the file if and only if what it says of the variables meets the constraints.
use Rattle.std.specs.Prelude.{◌≡◌, refl, ◌↔◌, Bool, true, false, ℕ, ◌<◌, ℤ}
use Rattle.std.proofs.Common.{sym, subst, true≢false}
use Rattle.std.proofs.Math.Bool.{xor}
use mathlib.Core.List.{List, ◌++◌, append-nil}
use Rattle.std.proofs.Math.IntN.{pos}
use Rattle.meaning.specs.Automata.{Aut}
use Rattle.meaning.specs.BitSet.{has}
use Rattle.encoding.specs.Variables.{Task, Var, step, mark, path}
use Rattle.encoding.specs.Clauses.{Assignment, Satisfied, Satisfies, marks_on, ◌∪◌, not_marks, totality, initial, successor, extension, closure, exactly_one, file}
use Rattle.encoding.specs.Satisfaction.{no_literal, one_literal, some_literal, premise, loop_premise, signed_false}
use Rattle.encoding.specs.Membership.{Listed, a_totality, the_initial, a_successor, an_extension, a_closure, listed}
use Rattle.encoding.specs.WellPosed.{WellPosed, node_present, extension_present}
use Rattle.encoding.specs.Constraints.{Marked, Constraints}

xor_equal : (a b : Bool) → (xor a b ≡ true → ⊥) → a ≡ b
unfolding xor
xor_equal true true h = refl
xor_equal true false h = absurd (h refl)
xor_equal false true h = absurd (h refl)
xor_equal false false h = refl

equal_xor : (a b : Bool) → a ≡ b → xor a b ≡ true → ⊥
unfolding xor
equal_xor true true e h = true≢false (sym h)
equal_xor true false e h = true≢false e
equal_xor false true e h = true≢false (sym e)
equal_xor false false e h = true≢false (sym h)

module _ (T : Task) (num : Var → ℕ) (from_1 : (x : Var) → 0 < num x) (ν : Assignment) where
  abbrev R : Aut
  R = T.reference

  abbrev val : Var → Bool
  val x = ν (num x)

  marks_premise : (p l t K : ℕ) {c : List ℤ} {X : Type 0} → (Satisfied ν c ↔ X) → Satisfied ν (not_marks T num p l t K ++ c) ↔ (Marked T val p l t K → X)
  unfolding not_marks
  marks_premise p l t K rest =
      let g = loop_premise ν T.m _ rest in (
        λ s k. g.0 s (λ i h. (signed_false ν (from_1 (mark p l i t)) (has K i)).1 (k i h)),
        λ f. g.1 (λ h. f (λ i hi. (signed_false ν (from_1 (mark p l i t)) (has K i)).0 (h i hi))),
      )

  totality_holds : (q l : ℕ) → Satisfied ν (totality T num q l) ↔ ((p : ℕ) × (p < T.n) × (val (step q l p) ≡ true))
  unfolding totality
  totality_holds q l = some_literal ν T.n (λ p. pos (num (step q l p)))

  initial_holds : Satisfied ν (initial T num) ↔ (val (path 0 R.start 0 R.start 0 0) ≡ true)
  unfolding initial
  initial_holds = one_literal ν _

  successor_holds : (q p u l : ℕ) → let w = R.step u l in
      Satisfied ν (successor T num q p u l) ↔ (val (path q u q u 0 0) ≡ true → val (step q l p) ≡ true → val (path p w p w 0 0) ≡ true)
  unfolding successor
  successor_holds q p u l = premise ν (from_1 _) (premise ν (from_1 _) (one_literal ν _))

  extension_holds : (q p t u v l I J K : ℕ) → let w = R.step v l in
      let F = marks_on R v l in
      Satisfied ν (extension T num q p t u v l I J K)
      ↔ (val (path q u p v I J) ≡ true → val (step p l t) ≡ true → Marked T val p l t K → val (path q u t w (I ∪ K) (J ∪ F)) ≡ true)
  unfolding extension
  extension_holds q p t u v l I J K = premise ν (from_1 _) (premise ν (from_1 _) (marks_premise p l t K (one_literal ν _)))

  closure_holds : (q p v l I J K : ℕ) → let w = R.step v l in
      Satisfied ν (closure T num q p v l I J K) ↔ (val (path q w p v I J) ≡ true → val (step p l q) ≡ true → Marked T val p l q K → ⊥)
  unfolding closure
  closure_holds q p v l I J K = premise ν (from_1 _) (premise ν (from_1 _) (rw append-nil at (marks_premise p l q K (no_literal ν))))

  -- THE CLAUSES AS IMPLICATIONS
  pub constraints : WellPosed T → Satisfies ν (file T num) ↔ Constraints T val
  unfolding exactly_one
  constraints W = (out, λ h c k. into h c ((listed T num c).0 k))
    where
      clause : Satisfies ν (file T num) → {c : List ℤ} → Listed T num c → Satisfied ν c
      clause s {c} k = s c ((listed T num c).1 k)

      out : Satisfies ν (file T num) → Constraints T val
      out s = record {
        total = λ q l hq hl. (totality_holds q l).0 (clause s (a_totality q l hq hl refl));
        initial = initial_holds.0 (clause s (the_initial refl));
        successor = λ q p u l h₁ h₂. (successor_holds q p u l).0 (clause s (a_successor q p u l h₂ h₁.1 refl));
        extension = λ q p t u v l I J K h₁ h₂ hK h₃. (extension_holds q p t u v l I J K).0 (clause s (an_extension q p t u v l I J K h₁ h₂ hK h₃.6 refl));
        closure = λ q p v l I J K h₁ h₂ hK e₁ e₂ e₃. xor_equal _ _ (λ x. (closure_holds q p v l I J K).0
            (clause s (a_closure q p v l I J K h₂ h₁.3 h₁.4 h₁.5 hK h₁.6 x refl)) e₁ e₂ e₃);
      }

      into : Constraints T val → (c : List ℤ) → Listed T num c → Satisfied ν c
      into h c (a_totality q l hq hl e) = subst (Satisfied ν) (sym e) ((totality_holds q l).1 (h.total q l hq hl))
      into h c (the_initial e) = subst (Satisfied ν) (sym e) (initial_holds.1 h.initial)
      into h c (a_successor q p u l k hu e) =
          subst (Satisfied ν) (sym e) ((successor_holds q p u l).1 (h.successor q p u l (node_present W q u k.0 hu) k))
      into h c (an_extension q p t u v l I J K k₁ k₂ hK k₃ e) =
          subst (Satisfied ν) (sym e) ((extension_holds q p t u v l I J K).1 (h.extension q p t u v l I J K k₁ k₂ hK (extension_present W q p t u v l I J K k₁ k₂ hK k₃)))
      into h c (a_closure q p v l I J K k hv hI hJ hK k₁ x e) =
          subst (Satisfied ν) (sym e) ((closure_holds q p v l I J K).1 (λ e₁ e₂ e₃. equal_xor _ _ (h.closure q p v l I J K
          (k.2, W.formed.step_lt v l hv k.1, k.0, hv, hI, hJ, k₁) k hK e₁ e₂ e₃) x))
