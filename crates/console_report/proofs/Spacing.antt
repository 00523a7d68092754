-- Numbers after spaces, written one after another.
use mathlib.Core.Path.{◌≡◌, ap, ◌∙◌, subst}
use mathlib.Core.List.{List, [], ◌∷◌, ◌++◌}
use Prim.Native.Nat.{ℕ, ◌+◌, ◌*◌, ◌≤◌, ◌<◌}
use native.Mathlib.Nat.{mul-add, mul-one}
use native.Mathlib.Omega.{arith}
use lib.ListN.{length, get_or, take}
use lib.Seq.{take_all}
use Rattle.decimal.specs.Decimal.{decimal}
use Rattle.decimal.specs.Wrote.{Wrote}
use Rattle.decimal.specs.Writing.{wrote_none, wrote_then}
use Rattle.console_report.specs.Lines.{row}
use Rattle.console_report.specs.Spaced.{spaced, spaced_row, spaced_more}

module _ (w d : List ℕ) (at k : ℕ) where
  -- i numbers are written, up to the place r, each in at most k bytes
  pub record Spaced (i : ℕ) (e : List ℕ) (r : ℕ) : Type 0 where
    pub some : i ≤ length w
    pub is : Wrote d at (spaced (take i w)) e r
    pub most : r ≤ at + k * i

  pub none_yet : at ≤ length d → Spaced 0 d at
  none_yet h = record { some = omega arith; is = wrote_none d at h; most = omega arith }

  module _ {i : ℕ} {e : List ℕ} {r : ℕ} (p : Spaced i e r) where
    pub one_more : {n : ℕ} {f : List ℕ} {s : ℕ} → i < length w → n ≡ get_or w i 0 → length (decimal n) + 1 ≤ k → Wrote e r (32 ∷ decimal n) f s → Spaced (i + 1) f s
    one_more {n} {f} {s} h q g x = record {
      some = omega arith;
      is =
          subst (λ u. Wrote d at u f s) (ap (λ n. spaced (take i w) ++ (32 ∷ decimal n)) q ∙ spaced_more w i h)
          (wrote_then p.is x);
      most = omega (arith, p.most, x.next, g, mul-add k i 1, mul-one k);
    }

    pub ended : length w ≤ i → Wrote d at (spaced w) e r
    ended h = subst (λ u. Wrote d at (spaced u) e r) (take_all i w h) p.is

-- and the line's end
pub wrote_row : (ns : List ℕ) {d : List ℕ} {at : ℕ} {e : List ℕ} {r : ℕ} {f : List ℕ} {s : ℕ} → Wrote d at (spaced ns) e r → Wrote e r (10 ∷ []) f s
    → Wrote d at (row ns) f s
wrote_row ns {d} {at} {e} {r} {f} {s} p q = subst (λ u. Wrote d at u f s) (spaced_row ns) (wrote_then p q)
