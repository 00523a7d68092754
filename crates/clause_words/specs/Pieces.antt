-- A line in pieces: literals with a space after each, and what closes the line.
use Rattle.std.specs.Prelude.{◌≡◌, refl, List, [], ◌∷◌, ◌++◌, ℕ, ◌+◌, ◌≤◌, ℤ, length, set}
use Rattle.std.proofs.Common.{sym, ap, ◌∙◌, subst, append_assoc, arith, length-set}
use Rattle.decimal.specs.Wrote.{Wrote}
use Rattle.decimal.specs.Writing.{wrote_one, wrote_then}
use Rattle.clause_words.specs.Text.{literal_text, spaced_text, line_text}

abbrev pub closing : List ℕ
closing = 48 ∷ 10 ∷ []

pub line_spaced : (c : List ℤ) → spaced_text c ++ closing ≡ line_text c
line_spaced [] = refl
line_spaced (x ∷ c) = append_assoc (literal_text x) (32 ∷ spaced_text c) closing ∙ ap (λ t. literal_text x ++ (32 ∷ t)) (line_spaced c)

pub spaced_append : (b c : List ℤ) → spaced_text (b ++ c) ≡ spaced_text b ++ spaced_text c
spaced_append [] c = refl
spaced_append (x ∷ b) c = ap (λ t. literal_text x ++ (32 ∷ t)) (spaced_append b c) ∙ sym (append_assoc (literal_text x) (32 ∷ spaced_text b) (spaced_text c))

-- a first literal, those in the middle, and a last one
pub line_pieces : (a : ℤ) (b : List ℤ) (c : ℤ) → spaced_text (a ∷ []) ++ (spaced_text b ++ (spaced_text (c ∷ []) ++ closing)) ≡ line_text (a ∷ b ++ (c ∷ []))
line_pieces a b c =
    append_assoc (literal_text a) (32 ∷ []) (spaced_text b ++ (spaced_text (c ∷ []) ++ closing))
    ∙ ap (λ t. literal_text a ++ (32 ∷ t)) (sym (append_assoc (spaced_text b) (spaced_text (c ∷ [])) closing) ∙ ap (λ t. t ++ closing) (sym (spaced_append b (c ∷ []))) ∙ line_spaced (b ++ (c ∷ [])))

-- what closes the line, written byte by byte
pub wrote_two : (d : List ℕ) (at x y : ℕ) → at + 2 ≤ length d → Wrote d at (x ∷ y ∷ []) (set (set d at x) (at + 1) y) (at + 2)
wrote_two d at x y h =
    let e : at + 1 + 1 ≡ at + 2 = omega arith in
    subst (Wrote d at (x ∷ y ∷ []) (set (set d at x) (at + 1) y)) e
    (wrote_then (wrote_one d at x (omega arith)) (wrote_one (set d at x) (at + 1) y (omega (arith, length-set d at x))))
