-- A part of a text that is lent.
use mathlib.Core.Path.{◌≡◌, refl, ap, ◌∙◌}
use mathlib.Core.List.{List, [], ◌∷◌}
use Prim.Native.Nat.{ℕ, zero, suc, ◌-◌, ◌≤◌}
use native.Mathlib.Omega.{arith}
use lib.ListN.{take, drop}
use lib.Seq.{slice}

-- a part that is lent is the slice
pub part_is : (i e : ℕ) (s : List ℕ) → i ≤ e → take (e - i) (drop i s) ≡ slice i e s
part_is zero e s h = let m : e - 0 ≡ e = omega arith in ap (λ n. take n s) m
part_is (suc i) zero s h = absurd (omega arith)
part_is (suc i) (suc e) [] h = nothing (suc e - suc i)
  where
    nothing : (n : ℕ) → take {A = ℕ} n [] ≡ []
    nothing zero = refl
    nothing (suc n) = refl
part_is (suc i) (suc e) (b ∷ s) h = let m : suc e - suc i ≡ e - i = omega arith in ap (λ n. take n (drop i s)) m ∙ part_is i e s (omega arith)
