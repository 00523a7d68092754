-- Laws of the bytes and of the steps, over plain values.
use mathlib.Core.Path.{◌≡◌, sym, ap, ◌∙◌}
use mathlib.Core.Bool.{false}
use Prim.Native.Nat.{ℕ, ◌<◌}
use borrow.Author.Tests.{eq-eqb, ne_eqb}
use Rattle.solver_scan.specs.declared.Scan.{Scan}
use Rattle.solver_scan.specs.declared.Place.{Place}
use Rattle.solver_scan.specs.SolverText.{blank}
use Rattle.solver_scan.specs.Scanning.{place_step, at_limit, scan_byte}
use Rattle.solver_scan.specs.Places.{taken, after_blank, after_line_feed, other_byte, space_taken, tab_taken, line_feed_taken, other_taken}

-- ---- bytes

not_blank : (b : ℕ) → (b ≡ 32 → ⊥) → (b ≡ 9 → ⊥) → blank b ≡ false
unfolding blank
not_blank b h k = rw (ne_eqb b 32 h, ne_eqb b 9 k)

-- ---- a byte

pub stopped : (s x : Scan) (b : ℕ) → s.at ≡ 4294967295 → x ≡ at_limit s.place s → x ≡ scan_byte s b
unfolding scan_byte
stopped s x b e q = rw (eq-eqb s.at 4294967295 e) q

module _ (s x : Scan) (b : ℕ) (on : s.at ≡ 4294967295 → ⊥) where
  going : x ≡ place_step s.place s b → x ≡ scan_byte s b
  unfolding scan_byte
  going q = rw (ne_eqb s.at 4294967295 on) q

  going_to : (p q : Place) (k : ℕ) → x ≡ taken s p → p ≡ q → taken s q ≡ place_step s.place s k → b ≡ k → x ≡ scan_byte s b
  going_to p q k e f h g = going (e ∙ ap (taken s) f ∙ h ∙ ap (place_step s.place s) (sym g))

  pub space_read : (p : Place) → x ≡ taken s p → p ≡ after_blank s.place s.verdict s.letters → b ≡ 32 → x ≡ scan_byte s b
  space_read p e f = going_to p _ 32 e f (space_taken s)

  pub tab_read : (p : Place) → x ≡ taken s p → p ≡ after_blank s.place s.verdict s.letters → b ≡ 9 → x ≡ scan_byte s b
  tab_read p e f = going_to p _ 9 e f (tab_taken s)

  pub line_feed_read : (p : Place) → x ≡ taken s p → p ≡ after_line_feed s.place s.verdict s.letters → b ≡ 10 → x ≡ scan_byte s b
  line_feed_read p e f = going_to p _ 10 e f (line_feed_taken s)

  pub other_read : b < 256 → x ≡ other_byte s.place s b → (b ≡ 32 → ⊥) → (b ≡ 9 → ⊥) → (b ≡ 10 → ⊥) → x ≡ scan_byte s b
  other_read small e h k l = going (e ∙ other_taken s b small (not_blank b h k) (ne_eqb b 10 l))
