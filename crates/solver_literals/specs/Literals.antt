-- The number of a literal is its variable; and what becomes of a literal, case by case, is what the definition says.
use Rattle.std.specs.Prelude.{◌≡◌, refl, Bool, true, false, cond, List, ℕ, zero, suc, ◌≤◌, ◌<◌, ℤ, pos, negsuc, neg_ℤ, nat_abs, leb, set}
use Rattle.std.proofs.Common.{subst}
use borrow.Author.Tests.{lt-ltb, le-ltb, le-leb, lt-leb}
use Rattle.solver_scan.specs.SolverText.{literal_of}
use Rattle.solver_scan.specs.Cases.{by}
use Rattle.solver_literals.specs.Giving.{mark_of, held, new, fits, given, Given}

pub abs_neg : (l : ℤ) → nat_abs (neg_ℤ l) ≡ nat_abs l
abs_neg (pos zero) = refl
abs_neg (pos (suc n)) = refl
abs_neg (negsuc n) = refl

pub abs_literal : (minus : Bool) (v : ℕ) → nat_abs (literal_of minus v) ≡ v
abs_literal false v = refl
abs_literal true v = abs_neg (pos v)

-- ---- which variables have an entry

pub held_yes : (kept v : ℕ) → v ≤ kept → v ≤ 5120 → held kept v ≡ true
unfolding held
held_yes kept v h k = rw (le-leb v kept h, le-leb v 5120 k)

pub held_past : (kept v : ℕ) → kept < v → held kept v ≡ false
unfolding held
held_past kept v h = rw (lt-leb v kept h)

pub held_outside : (kept v : ℕ) → 5120 < v → held kept v ≡ false
unfolding held
held_outside kept v h = by (leb v kept) (λ e. rw (e, lt-leb v 5120 h)) (λ e. rw e)

-- ---- a literal, case by case

-- a variable that has an entry
pub record Placed (l : ℤ) (t : List ℕ) (r : Bool) (e : List ℕ) : Type 0 where
  pub fit : r ≡ new l t
  pub table : e ≡ cond (new l t) (set t (nat_abs l) (mark_of l)) t

module _ {last kept : ℕ} (minus : Bool) (v : ℕ) (t : List ℕ) where
  pub given_past : last < v → Given last kept (literal_of minus v) t false t
  unfolding fits given
  given_past h = let e = abs_literal minus v in record { fit = rw (e, lt-ltb last v h); table = rw (e, lt-ltb last v h) }

  pub given_other : v ≤ last → held kept v ≡ false → Given last kept (literal_of minus v) t true t
  unfolding fits given
  given_other h k = let e = abs_literal minus v in record { fit = rw (e, le-ltb last v h, k); table = rw (e, le-ltb last v h, k) }

given_placed : {last kept : ℕ} (l : ℤ) (t : List ℕ) {r : Bool} {e : List ℕ} → nat_abs l ≤ last → held kept (nat_abs l) ≡ true → Placed l t r e → Given last kept l t r e
unfolding fits given
given_placed {last} l t h k p = record { fit = rw (le-ltb last (nat_abs l) h, k) p.fit; table = rw (le-ltb last (nat_abs l) h, k) p.table }

pub given_literal : {last kept : ℕ} (minus : Bool) (v : ℕ) (t : List ℕ) {l : ℤ} {r : Bool} {e : List ℕ} → l ≡ literal_of minus v → v ≤ last → held kept v ≡ true → Placed l t r e
    → Given last kept (literal_of minus v) t r e
given_literal {last} {kept} minus v t {l} {r} {e} q h k p =
    let a = abs_literal minus v in
    given_placed (literal_of minus v) t (rw a h) (rw a k) (subst (λ x. Placed x t r e) q p)
