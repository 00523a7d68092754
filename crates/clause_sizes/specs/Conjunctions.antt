-- Several tests at once: each passes if and only if what it tests holds.
use Rattle.std.specs.Prelude.{◌≡◌, ◌↔◌, Bool, true, false, ◌&&◌, ℕ, ◌≤◌, ◌<◌, ltb, leb, eqb}
use Rattle.std.proofs.Common.{sym, ◌∙◌, lt-ltb, ltb-true, le-leb, leb-true, eq-eqb, eqb-true}
use Rattle.std.proofs.lemmas.Bool.{false≢true}
use Rattle.meaning.specs.TestLaws.{and_true, and_left, and_right}

pub false_not : (b : Bool) → b ≡ false → b ≡ true → ⊥
false_not b e h = false≢true (sym e ∙ h)

pub both : {a b : Bool} {P Q : Type 0} → (a ≡ true) ↔ P → (b ≡ true) ↔ Q → ((a && b) ≡ true) ↔ (P × Q)
both {a} {b} f g = (λ h. (f.0 (and_left a b h), g.0 (and_right a b h)), λ (p, q). and_true (f.1 p) (g.1 q))

pub less : (x y : ℕ) → (ltb x y ≡ true) ↔ (x < y)
less x y = (ltb-true x y, lt-ltb x y)

pub at_most : (x y : ℕ) → (leb x y ≡ true) ↔ (x ≤ y)
at_most x y = (leb-true x y, le-leb x y)

pub equal : (x y : ℕ) → (eqb x y ≡ true) ↔ (x ≡ y)
equal x y = (eqb-true x y, eq-eqb x y)
