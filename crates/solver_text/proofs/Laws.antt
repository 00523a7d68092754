-- Laws of the bytes of a piece, of literals that end, and of the answer, over plain values.
use mathlib.Core.Path.{◌≡◌, refl, sym, ◌∙◌, subst}
use mathlib.Core.Bool.{Bool, true, false}
use mathlib.Core.List.{List}
use Prim.Native.Nat.{ℕ}
use Rattle.solver_scan.specs.declared.Scan.{Scan}
use Rattle.solver_scan.specs.SolverText.{literal_of}
use Rattle.solver_scan.specs.Scanning.{scan_byte, scan_end}
use Rattle.solver_literals.specs.Giving.{Given}
use Rattle.solver_text.specs.declared.Reader.{Reader}
use Rattle.solver_text.specs.Machine.{at_rest, unfitting, ending, in_literal, ends_literal, landed, step, end_at, end}

-- ---- a byte

module _ (last kept : ℕ) (s n : Scan) (t : List ℕ) (b : ℕ) (q : n ≡ scan_byte s b) where
  -- it ends a literal
  pub step_ends : (x : Reader) → ends_literal s.place n.place ≡ true → x ≡ ending last kept s n t → x ≡ step last kept s t b
  unfolding step landed
  step_ends x h e = subst (λ y. x ≡ landed s.place last kept s y t) q (rw h e)

  pub step_goes : ends_literal s.place n.place ≡ false → at_rest n t ≡ step last kept s t b
  unfolding step landed
  step_goes h = subst (λ y. at_rest n t ≡ landed s.place last kept s y t) q (rw h refl)

-- ---- a literal

module _ (last kept : ℕ) (s next : Scan) (t e : List ℕ) (r : Bool) (g : Given last kept (literal_of s.minus s.value) t r e) where
  pub literal_fits : r ≡ true → at_rest next e ≡ ending last kept s next t
  unfolding ending
  literal_fits h = rw (g.table, sym g.fit ∙ h)

  pub literal_unfit : r ≡ false → at_rest (unfitting s) e ≡ ending last kept s next t
  unfolding ending
  literal_unfit h = rw (g.table, sym g.fit ∙ h)

-- ---- the end of the text

module _ (last kept : ℕ) (s n : Scan) (t : List ℕ) (q : n ≡ scan_end s) where
  pub end_literal : (x : Reader) → in_literal s.place ≡ true → x ≡ ending last kept s n t → x ≡ end last kept (at_rest s t)
  unfolding end_at
  end_literal x h e = rw h (subst (λ y. x ≡ ending last kept s y t) q e)

  pub end_plain : in_literal s.place ≡ false → at_rest n t ≡ end last kept (at_rest s t)
  unfolding end_at
  end_plain h = rw (h, q)
