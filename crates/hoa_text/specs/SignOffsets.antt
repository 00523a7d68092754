-- Signs at an offset, and bytes that start no token.
use Rattle.std.specs.Prelude.{◌≡◌, refl, ◌≢◌, Bool, true, false, ◌&&◌, ◌||◌, List, [], ◌∷◌, ◌++◌, ℕ, suc, ◌+◌, ◌<◌, eqb, length, get_or, drop}
use Rattle.std.proofs.Common.{sym, ap, ◌∙◌, true≢false, arith, eq-eqb, ne_eqb, eqb-true, length-append, length-drop, drop_of_length-le, drop-cons}
use Rattle.std.proofs.Math.Decide.{dec_lt}
use Rattle.meaning.specs.TestLaws.{and_left, and_right, or_false}
use Rattle.automaton.specs.Bytes.{bytes}
use Rattle.hoa_text.specs.Basics.{begins}
use Rattle.hoa_text.specs.Tokens.{blank, digit, opens_word, sign, token, stray, signs, sign_at, piece, stands, broken, left}
use Rattle.hoa_text.specs.Offsets.{inside, left_token, left_stray}

-- ---- signs

begins_is : (w s : List ℕ) → begins w s ≡ true → s ≡ w ++ drop (length w) s
begins_is [] s h = refl
begins_is (a ∷ w) [] h = absurd (true≢false (sym h))
begins_is (a ∷ w) (b ∷ s) h = cc (eqb-true a b (and_left (eqb a b) (begins w s) h), begins_is w s (and_right (eqb a b) (begins w s) h))

-- The sign of the byte b and then w: that it is one holds by computation.
module _ (b : ℕ) (w : List ℕ) (is_sign_lem : (r : List ℕ) → piece b (w ++ r) ≡ token (sign (b ∷ w)) (length w)) (s : List ℕ) (i : ℕ) where
  pub left_sign : begins (b ∷ w) (drop i s) ≡ true → left s i ≡ stands i (sign (b ∷ w)) (left s (i + length (b ∷ w)))
  left_sign h = go (dec_lt i (length s))
    where
      go : Dec (i < length s) → left s i ≡ stands i (sign (b ∷ w)) (left s (i + length (b ∷ w)))
      go (no l) = absurd (true≢false (sym h ∙ ap (begins (b ∷ w)) (drop_of_length-le s {i = i} (omega arith))))
      go (yes l) =
          let c = get_or s i 0 in
          let r = drop (suc i) s in
          let k : (eqb b c && begins w r) ≡ true = sym (ap (begins (b ∷ w)) (drop-cons s i 0 l)) ∙ h in
          let e : b ≡ c = eqb-true b c (and_left (eqb b c) (begins w r) k) in
          let f : r ≡ w ++ drop (length w) r = begins_is w r (and_right (eqb b c) (begins w r) k) in
          left_token s i l (i + length (b ∷ w)) (length w) (sign (b ∷ w)) (ap (λ x. piece x r) (sym e) ∙ ap (piece b) f ∙ is_sign_lem (drop (length w) r))
          (omega arith) (omega (arith, length-drop (suc i) s, ap length f, length-append w (drop (length w) r)))

-- one of the marks
pub left_mark : (b : ℕ) → ((r : List ℕ) → piece b r ≡ token (sign (b ∷ [])) 0) → (s : List ℕ) (i : ℕ) → i < length s → get_or s i 0 ≡ b
    → left s i ≡ stands i (sign (b ∷ [])) (left s (i + 1))
left_mark b is_sign_lem s i l e = left_sign b [] is_sign_lem s i (ap (begins (b ∷ [])) (drop-cons s i 0 l) ∙ rw (eq-eqb b (get_or s i 0) (sym e)))

pub left_body : (s : List ℕ) (i : ℕ) → begins (bytes "--BODY--") (drop i s) ≡ true → left s i ≡ stands i (sign (bytes "--BODY--")) (left s (i + 8))
left_body s i h = left_sign 45 (bytes "-BODY--") (λ r. refl) s i h

pub left_end : (s : List ℕ) (i : ℕ) → begins (bytes "--END--") (drop i s) ≡ true → left s i ≡ stands i (sign (bytes "--END--")) (left s (i + 7))
left_end s i h = left_sign 45 (bytes "-END--") (λ r. refl) s i h

pub left_abort : (s : List ℕ) (i : ℕ) → begins (bytes "--ABORT--") (drop i s) ≡ true → left s i ≡ stands i (sign (bytes "--ABORT--")) (left s (i + 9))
left_abort s i h = left_sign 45 (bytes "-ABORT--") (λ r. refl) s i h

-- ---- no token

-- a `-` that begins none of the words
pub left_dash : (s : List ℕ) (i : ℕ) → get_or s i 0 ≡ 45 → begins (bytes "--BODY--") (drop i s) ≡ false → begins (bytes "--END--") (drop i s) ≡ false
    → begins (bytes "--ABORT--") (drop i s) ≡ false → left s i ≡ broken i i
left_dash s i h h₁ h₂ h₃ =
    let l : i < length s = inside s i (omega arith) in
    let d : drop i s ≡ 45 ∷ drop (suc i) s = drop-cons s i 0 l ∙ ap (λ b. b ∷ drop (suc i) s) h in
    left_stray s i l (ap (λ b. piece b (drop (suc i) s)) h ∙ rw (rw d at h₁, rw d at h₂, rw d at h₃))

-- the first bytes of the signs
abbrev pub opens_sign : ℕ → Bool
opens_sign b =
    eqb 33 b || (eqb 38 b || (eqb 124 b || (eqb 40 b || (eqb 41 b || (eqb 91 b || (eqb 93 b || (eqb 123 b || (eqb 125 b || eqb 45 b))))))))

no_sign : (b : ℕ) (r : List ℕ) → opens_sign b ≡ false → sign_at signs (b ∷ r) ≡ stray
no_sign b r h =
    let h₁ = or_false (eqb 33 b) _ h in
    let h₂ = or_false (eqb 38 b) _ h₁.1 in
    let h₃ = or_false (eqb 124 b) _ h₂.1 in
    let h₄ = or_false (eqb 40 b) _ h₃.1 in
    let h₅ = or_false (eqb 41 b) _ h₄.1 in
    let h₆ = or_false (eqb 91 b) _ h₅.1 in
    let h₇ = or_false (eqb 93 b) _ h₆.1 in
    let h₈ = or_false (eqb 123 b) _ h₇.1 in
    let h₉ = or_false (eqb 125 b) _ h₈.1 in
    rw (h₁.0, h₂.0, h₃.0, h₄.0, h₅.0, h₆.0, h₇.0, h₈.0, h₉.0, h₉.1)

-- a byte that opens none of the tokens
pub record OpensNone (b : ℕ) : Type 0 where
  pub no_blank : blank b ≡ false
  pub no_digit : digit b ≡ false
  pub no_word : opens_word b ≡ false
  pub no_quote : b ≢ 34
  pub no_at : b ≢ 64
  pub no_sign : opens_sign b ≡ false

pub left_none : (s : List ℕ) (i : ℕ) → i < length s → OpensNone (get_or s i 0) → left s i ≡ broken i i
left_none s i l n =
    left_stray s i l (rw (n.no_blank, n.no_digit, n.no_word, ne_eqb (get_or s i 0) 34 n.no_quote, ne_eqb (get_or s i 0) 64 n.no_at)
    (no_sign (get_or s i 0) (drop (suc i) s) n.no_sign))
