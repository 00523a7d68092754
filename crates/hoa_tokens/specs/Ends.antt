-- The tokens that are left, and that no blank stands before it, fix an offset: so the offset behind what was read is one.
use Rattle.std.specs.Prelude.{◌≡◌, refl, Bool, true, false, List, [], ◌∷◌, ℕ, zero, suc, ◌+◌, ◌-◌, ◌≤◌, ◌<◌, eqb, length, get_or, drop}
use Rattle.std.proofs.Common.{sym, ap, ◌∙◌, subst, true≢false, arith}
use Rattle.std.proofs.lemmas.Bool.{false≢true}
use Rattle.std.proofs.Math.Option.{Option, none, some}
use Rattle.std.proofs.Math.Decide.{dec_lt}
use Rattle.meaning.specs.TestLaws.{on_cond}
use Rattle.hoa_text.specs.Basics.{begins}
use Rattle.hoa_text.specs.Tokens.{blank, digit, opens_word, in_word, Piece, gap, token, cut, stray, run, in_quotes, string, alias, signs, sign_at, piece, Stream, stands, over, broken, placed, left}
use Rattle.hoa_text.specs.Offsets.{left_over, left_piece, left_blank}

-- ---- a byte that is no blank begins a piece that is no gap

abbrev solid : Piece → Bool
solid gap = false
solid (token t n) = true
solid cut = true
solid stray = true

solid_text : (x : Option (List ℕ)) → solid (string x) ≡ true
solid_text none = refl
solid_text (some w) = refl

solid_alias : (w : List ℕ) → solid (alias w) ≡ true
solid_alias [] = refl
solid_alias (b ∷ w) = refl

solid_sign : (ws : List (List ℕ)) (r : List ℕ) → solid (sign_at ws r) ≡ true
solid_sign [] r = refl
solid_sign (w ∷ ws) r = on_cond (λ x. solid x ≡ true) (begins w r) _ _ (λ e. refl) (λ e. solid_sign ws r)

solid_piece : (b : ℕ) (r : List ℕ) → blank b ≡ false → solid (piece b r) ≡ true
solid_piece b r h =
    let tail = run in_word r in
    let P : Piece → Type 0 = λ x. solid x ≡ true in
    on_cond P (blank b) _ _ (λ e. absurd (true≢false (sym e ∙ h)))
    (λ e. on_cond P (digit b) _ _ (λ d. refl)
    (λ d. on_cond P (opens_word b) _ _ (λ w. on_cond P (eqb (get_or r (length tail) 0) 58) _ _ (λ e. refl) (λ e. refl))
    (λ w. on_cond P (eqb b 34) _ _ (λ q. solid_text (in_quotes false r)) (λ q. on_cond P (eqb b 64) _ _ (λ a. solid_alias tail) (λ a. solid_sign signs (b ∷ r))))))

-- ---- the offset of what stands next

abbrev first : Stream → ℕ
first (stands o t u) = o
first (over o) = o
first (broken q o) = q

placed_first : (x : Piece) → solid x ≡ true → (o e : ℕ) (go : ℕ → Stream) → first (placed x o e go) ≡ o
placed_first gap h o e go = absurd (false≢true h)
placed_first (token t n) h o e go = refl
placed_first cut h o e go = refl
placed_first stray h o e go = refl

module _ (s : List ℕ) where
  first_here : (i : ℕ) → i < length s → blank (get_or s i 0) ≡ false → first (left s i) ≡ i
  first_here i l h =
      ap first (left_piece s i l _ refl) ∙ placed_first (piece (get_or s i 0) (drop (suc i) s)) (solid_piece (get_or s i 0) (drop (suc i) s) h) _ _ _

  first_later : (n i : ℕ) → length s ≤ i + n → i ≤ first (left s i)
  first_later zero i h = omega (arith, ap first (left_over s i (omega arith)))
  first_later (suc n) i h = go (dec_lt i (length s)) (blank (get_or s i 0)) refl (first_later n (i + 1) (omega arith))
    where
      go : Dec (i < length s) → (b : Bool) → blank (get_or s i 0) ≡ b → i + 1 ≤ first (left s (i + 1)) → i ≤ first (left s i)
      go (no l) b e k = omega (arith, ap first (left_over s i (omega arith)))
      go (yes l) false e k = omega (arith, first_here i l e)
      go (yes l) true e k = omega (arith, ap first (left_blank s i l e))

  -- ---- where the same tokens are left there are only blanks between

  blank_here : (i j : ℕ) → i < j → j ≤ length s → left s i ≡ left s j → blank (get_or s i 0) ≡ true
  blank_here i j a l e = go (blank (get_or s i 0)) refl
    where
      go : (b : Bool) → blank (get_or s i 0) ≡ b → blank (get_or s i 0) ≡ true
      go true h = h
      go false h = absurd (omega (arith, first_here i (omega arith) h, ap first e, first_later (length s) j (omega arith)))

  blank_before : (n i j : ℕ) → j ≡ i + suc n → j ≤ length s → left s i ≡ left s j → blank (get_or s (j - 1) 0) ≡ true
  blank_before zero i j q l e = let m : i ≡ j - 1 = omega arith in subst (λ k. blank (get_or s k 0) ≡ true) m (blank_here i j (omega arith) l e)
  blank_before (suc n) i j q l e = blank_before n (i + 1) j (omega arith) l (sym (left_blank s i (omega arith) (blank_here i j (omega arith) l e)) ∙ e)

  pub one_end : (i j : ℕ) → i ≤ length s → j ≤ length s → left s i ≡ left s j → blank (get_or s (i - 1) 0) ≡ false → blank (get_or s (j - 1) 0) ≡ false → i ≡ j
  one_end i j l m e h k = go (dec_lt i j) (dec_lt j i)
    where
      go : Dec (i < j) → Dec (j < i) → i ≡ j
      go (yes a) b = absurd (true≢false (sym (blank_before (j - suc i) i j (omega arith) m e) ∙ k))
      go (no a) (yes b) = absurd (true≢false (sym (blank_before (i - suc j) j i (omega arith) l (sym e)) ∙ h))
      go (no a) (no b) = omega arith
