-- EVERY LITERAL of the file is a variable that there is, or its negative. So what an assignment says of other numbers does not count.
use Rattle.std.specs.Prelude.{◌≡◌, Bool, not, cond, ℕ, ◌≤◌, ◌<◌, ℤ, pos, neg_ℤ}
use Rattle.std.proofs.Math.Path.{refl, subst}
use Rattle.std.proofs.Common.{sym, ap, ◌∙◌, ⊎_elim}
use Rattle.std.proofs.Math.Logic.{inl, inr}
use Rattle.std.proofs.Math.Bool.{true, false}
use mathlib.Core.List.Memᴰ
use mathlib.Core.List.{List, [], ◌∷◌, ◌++◌, Memᴰ}
use Rattle.meaning.specs.BitSet.{has}
use Rattle.encoding.specs.Variables.{Task, Var, step, mark, path, Present}
use Rattle.encoding.specs.Clauses.{Assignment, holds, Satisfies, each, not_marks, totality, initial, successor, extension, closure, file}
use Rattle.encoding.specs.Loops.{each_elim}
use Rattle.encoding.specs.Membership.{Listed, a_totality, the_initial, a_successor, an_extension, a_closure, listed}
use Rattle.encoding.specs.WellPosed.{WellPosed, node_present, extension_present}
use Rattle.encoding.specs.Satisfaction.{holds_neg}
use Rattle.encoding.specs.Literals.{IsLiteral}

module _ {T : Task} (W : WellPosed T) (num : Var → ℕ) where
  -- each literal of the clause is that of a variable that there is
  abbrev AllPresent : List ℤ → Type 0
  AllPresent c = (x : ℤ) → Memᴰ x c → (y : Var) × Present T y × IsLiteral num x y

  present_nil : AllPresent []
  present_nil x k = absurd (Memᴰ.not-nil k)

  present_cons : {a : ℤ} {c : List ℤ} (y : Var) → Present T y → IsLiteral num a y → AllPresent c → AllPresent (a ∷ c)
  present_cons y h l f x k = ⊎_elim (λ e. (y, h, subst (λ z. IsLiteral num z y) (sym e) l)) (f x) (Memᴰ.cases_cons k)

  present_append : (a : List ℤ) {b : List ℤ} → AllPresent a → AllPresent b → AllPresent (a ++ b)
  present_append a f g x k = ⊎_elim (f x) (g x) (Memᴰ.append_cases a k)

  present_each : (n : ℕ) (f : ℕ → List ℤ) → ((i : ℕ) → i < n → AllPresent (f i)) → AllPresent (each n f)
  present_each n f g x = each_elim (λ i h. g i h x)

  present_marks : (p l t K : ℕ) → Present T (step p l t) → AllPresent (not_marks T num p l t K)
  unfolding not_marks
  present_marks p l t K (hp, hl, ht) = present_each T.m _ (λ i hi. present_cons (mark p l i t) (hp, hl, hi, ht) (go (mark p l i t) (has K i)) present_nil)
    where
      go : (y : Var) (b : Bool) → IsLiteral num (cond b (neg_ℤ (pos (num y))) (pos (num y))) y
      go y true = inr refl
      go y false = inl refl

  present_clause : (c : List ℤ) → Listed T num c → AllPresent c
  unfolding totality initial successor extension closure
  present_clause c (a_totality q l hq hl e) = subst AllPresent (sym e) (present_each T.n _ (λ p hp. present_cons (step q l p) (hq, hl, hp) (inl refl) present_nil))
  present_clause c (the_initial e) =
      subst AllPresent (sym e) (present_cons _ (node_present W 0 T.reference.start W.some_state W.formed.start_lt) (inl refl) present_nil)
  present_clause c (a_successor q p u l (hq, hl, hp) hu e) =
      subst AllPresent (sym e) (present_cons _ (node_present W q u hq hu) (inr refl) (present_cons (step q l p) (hq, hl, hp) (inr refl)
      (present_cons _ (node_present W p (T.reference.step u l) hp (W.formed.step_lt u l hu hl)) (inl refl) present_nil)))
  present_clause c (an_extension q p t u v l I J K h₁ h₂ hK k e) =
      subst AllPresent (sym e) (present_cons (path q u p v I J) h₁ (inr refl) (present_cons (step p l t) h₂ (inr refl)
      (present_append (not_marks T num p l t K) (present_marks p l t K h₂) (present_cons _ (extension_present W q p t u v l I J K h₁ h₂ hK k) (inl refl) present_nil))))
  present_clause c (a_closure q p v l I J K (hp, hl, hq) hv hI hJ hK k x e) =
      subst AllPresent (sym e) (present_cons (path q (T.reference.step v l) p v I J) (hq, W.formed.step_lt v l hv hl, hp, hv, hI, hJ, k) (inr refl)
      (present_cons (step p l q) (hp, hl, hq) (inr refl) (present_marks p l q K (hp, hl, hq))))

  pub literals : (c : List ℤ) → Memᴰ c (file T num) → (x : ℤ) → Memᴰ x c → (y : Var) × Present T y × IsLiteral num x y
  literals c k = present_clause c ((listed T num c).0 k)

  -- an assignment counts only where the numbers are: from 1 to the last
  pub within : (last : ℕ) → ((y : Var) → 0 < num y) → ((y : Var) → Present T y → num y ≤ last) → (ν ξ : Assignment)
      → ((k : ℕ) → 0 < k → k ≤ last → ν k ≡ ξ k) → Satisfies ν (file T num) → Satisfies ξ (file T num)
  within last from_1 to_last ν ξ same s c k =
      let (x, i, e) = s c k in
      let (y, h, d) = literals c k x i in
      (x, i, go x y (same (num y) (from_1 y) (to_last y h)) d ∙ e)
    where
      go : (x : ℤ) (y : Var) → ν (num y) ≡ ξ (num y) → IsLiteral num x y → holds ξ x ≡ holds ν x
      go x y e (inl d) = ap (holds ξ) d ∙ sym e ∙ sym (ap (holds ν) d)
      go x y e (inr d) =
          ap (holds ξ) d ∙ holds_neg ξ (num y) (from_1 y) ∙ sym (ap not e) ∙ sym (holds_neg ν (num y) (from_1 y)) ∙ sym (ap (holds ν) d)
