-- DEFINITION: which literals of a solver text are turned down with 10, and what the table holds once they were read. `last` is V, the last variable;
-- the step and mark variables are those up to `kept`.
use Rattle.std.specs.Prelude.{◌≡◌, Bool, true, false, cond, ◌&&◌, List, ℕ, ltb, leb, eqb, ℤ, pos, nat_abs, get_or, set}
use Rattle.std.specs.Int.Signed.{lt_z}

-- true is 1, false is 2
abbrev pub mark_of : ℤ → ℕ
mark_of l = cond (lt_z l (pos 0)) 2 1

-- a step or mark variable has an entry: the table ends at 5,120, the last one of the largest file
unfoldable pub held : ℕ → ℕ → Bool
held kept v = leb v kept && leb v 5_120

-- which is 0 while the variable is not given
abbrev pub new : ℤ → List ℕ → Bool
new l t = eqb (get_or t (nat_abs l) 0) 0

-- "literal past V, or step or mark variable given twice" is turned down
unfoldable pub fits : ℕ → ℕ → ℤ → List ℕ → Bool
fits last kept l t = cond (ltb last (nat_abs l)) false (cond (held kept (nat_abs l)) (new l t) true)

-- the table, once the literal was read
unfoldable pub given : ℕ → ℕ → ℤ → List ℕ → List ℕ
given last kept l t = cond (ltb last (nat_abs l)) t (cond (held kept (nat_abs l)) (cond (new l t) (set t (nat_abs l) (mark_of l)) t) t)

-- whether the literal fits, and the table after it
pub record Given (last kept : ℕ) (l : ℤ) (t : List ℕ) (r : Bool) (e : List ℕ) : Type 0 where
  pub fit : r ≡ fits last kept l t
  pub table : e ≡ given last kept l t
