-- A text written literal by literal.
use mathlib.Core.Path.{◌≡◌, sym, ap, ◌∙◌, subst}
use mathlib.Core.Bool.{true, false}
use mathlib.Core.List.{List, [], ◌∷◌, ◌++◌}
use Prim.Native.Nat.{ℕ, ◌+◌, ◌*◌, ◌≤◌, ◌<◌}
use native.Mathlib.Numerals.{add-one}
use native.Mathlib.Omega.{arith}
use lib.IntN.{ℤ, pos, negsuc, nat_abs}
use lib.Signed.{lt_z}
use lib.ListN.{length, get_or, take, set, length-set}
use lib.Seq.{take-suc, take_all}
use Rattle.decimal.specs.Wrote.{Wrote, WroteIfRoom}
use Rattle.decimal.specs.Writing.{wrote_none, wrote_one, wrote_then, wrote_length, wrote_front}
use Rattle.decimal.specs.Decimal.{decimal}
use Rattle.decimal.specs.Digits.{decimal_at_most}
use Rattle.clause_words.specs.Text.{literal_text, spaced_text, line_text}
use Rattle.clause_words.specs.Pieces.{line_spaced, spaced_append, wrote_two}
use Rattle.clause_words.proofs.Signs.{text_negative, text_other}

-- ---- one literal

module _ (literal : ℤ) {variable : ℕ} (v : variable ≡ nat_abs literal) where
  negative_text : lt_z literal (pos 0) ≡ true → (45 ∷ []) ++ decimal variable ≡ literal_text literal
  negative_text h = ap (λ k. 45 ∷ decimal k) v ∙ text_negative literal h

  other_text : lt_z literal (pos 0) ≡ false → decimal variable ≡ literal_text literal
  other_text h = ap decimal v ∙ text_other literal h

  pub negative_room : (at : ℕ) (d : List ℕ) → at + length (literal_text literal) ≤ length d → lt_z literal (pos 0) ≡ true
      → at + 1 + length (decimal variable) ≤ length d
  negative_room at d room h = omega (arith, room, ap length (negative_text h))

  pub wrote_negative : {d e : List ℕ} {at r : ℕ} → at + length (literal_text literal) ≤ length d → lt_z literal (pos 0) ≡ true → WroteIfRoom (set d at 45) (at + 1) (decimal variable) e r → Wrote d at (literal_text literal) e r
  wrote_negative {d} {e} {at} {r} room h w =
      subst (λ t. Wrote d at t e r) (negative_text h)
      (wrote_then (wrote_one d at 45 (omega (arith, negative_room at d room h))) (w.roomy (omega (arith, length-set d at 45, negative_room at d room h))))

  pub wrote_other : {d e : List ℕ} {at r : ℕ} → at + length (literal_text literal) ≤ length d → lt_z literal (pos 0) ≡ false → WroteIfRoom d at (decimal variable) e r → Wrote d at (literal_text literal) e r
  wrote_other {d} {e} {at} {r} room h w = subst (λ t. Wrote d at t e r) (other_text h) (w.roomy (omega (arith, room, ap length (other_text h))))

-- a minus and ten digits
pub literal_at_most : (x : ℤ) → nat_abs x < 10000000000 → length (literal_text x) ≤ 11
literal_at_most (pos k) h = omega (arith, decimal_at_most k 10 (omega arith) (omega arith))
literal_at_most (negsuc k) h = omega (arith, decimal_at_most (k + 1) 10 (omega arith) (omega arith))

pub wrote_spaced : {d e : List ℕ} {at r : ℕ} (x : ℤ) → Wrote d at (literal_text x) e r → r < length d → Wrote d at (spaced_text (x ∷ [])) (set e r 32) (r + 1)
wrote_spaced {e} {r} x w h = wrote_then w (wrote_one e r 32 (omega (arith, wrote_length w)))

-- ---- literals one after another

-- d is d₀ with the text of the first i literals from `at` on, up to `to`
pub record Spelled (c : List ℤ) (d₀ : List ℕ) (at : ℕ) (d : List ℕ) (i to : ℕ) : Type 0 where
  pub wrote : Wrote d₀ at (spaced_text (take i c)) d to
  pub most : to ≤ at + i * 12

pub spelled_none : (c : List ℤ) (d : List ℕ) (at : ℕ) → at ≤ length d → Spelled c d at d 0 at
spelled_none c d at h = record { wrote = wrote_none d at h; most = omega arith }

module _ {c : List ℤ} {d₀ : List ℕ} {at : ℕ} {d : List ℕ} {i to : ℕ} (s : Spelled c d₀ at d i to) where
  pub spelled_more : {e : List ℕ} {r : ℕ} → i < length c → Wrote d to (spaced_text (get_or c i (pos 0) ∷ [])) e r → r ≤ to + 12 → Spelled c d₀ at e (i + 1) r
  spelled_more {e} {r} h w l =
      let more : spaced_text (take i c) ++ spaced_text (get_or c i (pos 0) ∷ []) ≡ spaced_text (take (i + 1) c) =
      sym (spaced_append (take i c) (get_or c i (pos 0) ∷ [])) ∙ ap spaced_text (sym (take-suc c i (pos 0) h)) ∙ ap (λ k. spaced_text (take k c)) (sym (add-one i)) in
      record { wrote = subst (λ t. Wrote d₀ at t e r) more (wrote_then s.wrote w); most = omega (arith, s.most) }

  pub spelled_all : length c ≤ i → i ≤ length c → Wrote d₀ at (spaced_text c) d to × (to ≤ at + length c * 12)
  spelled_all h g = (subst (λ b. Wrote d₀ at (spaced_text b) d to) (take_all i c h) s.wrote, omega (arith, s.most))

-- ---- a line

pub wrote_line : (c : List ℤ) {d e : List ℕ} {r : ℕ} → Wrote d 0 (spaced_text c) e r → r + 2 ≤ length e → take (r + 2) (set (set e r 48) (r + 1) 10) ≡ line_text c
wrote_line c {e} {r} w h = wrote_front (wrote_then w (wrote_two e r 48 10 h)) ∙ line_spaced c
