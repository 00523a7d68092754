-- By cases on a test, and out of two values that cannot be equal.
use Rattle.std.specs.Prelude.{◌≡◌, refl, Bool, true, false, cond, ℕ}
use Rattle.std.proofs.Common.{arith}

pub by : {P : Type 0} (x : Bool) → (x ≡ true → P) → (x ≡ false → P) → P
by true f g = f refl
by false f g = g refl

-- a property of what the test chooses
pub either : {A : Type 0} (P : A → Type 0) (x : Bool) {y z : A} → (x ≡ true → P y) → (x ≡ false → P z) → P (cond x y z)
either P true f g = f refl
either P false f g = g refl

pub either_way : {A : Type 0} (P : A → Type 0) (x : Bool) {y z : A} → P y → P z → P (cond x y z)
either_way P true h k = h
either_way P false h k = k

-- two different constructors
pub clash : {P : Type 0} → ◌≡◌ {A = ℕ} 0 1 → P
clash e = absurd (omega arith)
