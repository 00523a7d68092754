-- Laws of the choice of a formula's next token: what stands there, and what does not.
use mathlib.Core.Path.{◌≡◌, refl, sym, ap, ◌∙◌}
use mathlib.Core.Logic.{◌≢◌, inl, inr}
use mathlib.Core.Bool.{Bool, true, false, cond, ◌&&◌}
use mathlib.Core.List.{List}
use Prim.Native.Nat.{ℕ, ◌+◌, ◌-◌}
use native.Mathlib.Omega.{arith}
use borrow.Author.Tests.{ne_eqb, leb-true}
use lib.Dec.{eqb, leb}
use lib.ListN.{get_or}
use Rattle.meaning.specs.TestLaws.{and_right}
use Rattle.std.specs.Prelude.{Some, None, Result}
use Rattle.refusals.specs.declared.Refusal.{Refusal}
use Rattle.refusals.specs.declared.Refusal.TheVariants.{Form}
use Rattle.hoa_text.specs.Tokens.{digit, left}
use Rattle.hoa_text.specs.Grammar.{is_sign, next, at, refuses}
use Rattle.hoa_text.specs.Formulas.{Atoms, negates, unary}
use Rattle.hoa_text.specs.Numbers.{digit_from}
use Rattle.hoa_offsets.specs.Behind.{Behind}
use Rattle.hoa_offsets.specs.BehindLaws.{absent, its_offset}
use Rattle.hoa_formulas.specs.declared.FormulaRead.{FormulaRead}
use Rattle.hoa_formulas.specs.declared.tokens.FormulaToken.{FormulaToken}
use Rattle.hoa_formulas.specs.declared.tokens.FormulaToken.TheVariants.{Not, And, Or, Open, Close, Constant, Number, Name, Other}
use Rattle.hoa_formulas.specs.Answers.{Answers}
use Rattle.hoa_formulas.specs.Choice.{offset_of, Opens, Chosen}
use Rattle.hoa_formulas.specs.Parts.{ConstantAt}
use Rattle.hoa_formulas.proofs.Laws.{answers_from, sign_first, sign_absent, no_not, not_an_operator, is_atom, unary_atom}
use Rattle.hoa_formulas.proofs.AtomLaws.{constant_atom, no_atom}

-- ---- one byte chooses one token

-- the token that a byte chooses at o
abbrev token_for : ℕ → ℕ → FormulaToken
token_for b o =
    cond (eqb b 33) (Not o)
    (cond (eqb b 38) (And o)
    (cond (eqb b 124) (Or o)
    (cond (eqb b 40) (Open o)
    (cond (eqb b 41) (Close o)
    (cond (eqb b 116) (Constant o)
    (cond (eqb b 102) (Constant o)
    (cond (eqb b 73) (Name o)
    (cond (eqb b 70) (Name o)
    (cond (digit b) (Number o) (Other o))))))))))

number_for : (b o : ℕ) → digit b ≡ true → Number o ≡ token_for b o
number_for b o h =
    let l = digit_from b h in
    let m = leb-true b 57 (and_right (leb 48 b) (leb b 57) h) in
    let apart : (c : ℕ) → (b ≡ c → ⊥) → eqb b c ≡ false = λ c n. ne_eqb b c n in
    rw (apart 33 (λ e. omega arith), apart 38 (λ e. omega arith), apart 124 (λ e. omega arith), apart 40 (λ e. omega arith), apart 41 (λ e. omega arith), apart 116 (λ e. omega arith), apart 102 (λ e. omega arith), apart 73 (λ e. omega arith), apart 70 (λ e. omega arith), h)

chosen_for : (b : ℕ) (x : FormulaToken) → Opens b x → x ≡ token_for b (offset_of x)
chosen_for b (Not o) e = ap (λ c. token_for c o) (sym e)
chosen_for b (And o) e = ap (λ c. token_for c o) (sym e)
chosen_for b (Or o) e = ap (λ c. token_for c o) (sym e)
chosen_for b (Open o) e = ap (λ c. token_for c o) (sym e)
chosen_for b (Close o) e = ap (λ c. token_for c o) (sym e)
chosen_for b (Constant o) (inl e) = ap (λ c. token_for c o) (sym e)
chosen_for b (Constant o) (inr e) = ap (λ c. token_for c o) (sym e)
chosen_for b (Number o) h = number_for b o h
chosen_for b (Name o) (inl e) = ap (λ c. token_for c o) (sym e)
chosen_for b (Name o) (inr e) = ap (λ c. token_for c o) (sym e)
chosen_for b (Other o) h =
    rw (ne_eqb b 33 h.no_not, ne_eqb b 38 h.no_and, ne_eqb b 124 h.no_or, ne_eqb b 40 h.no_open, ne_eqb b 41 h.no_close, ne_eqb b 116 h.no_true, ne_eqb b 102 h.no_false, ne_eqb b 73 h.no_inf, ne_eqb b 70 h.no_fin, h.no_digit)

module _ (s : List ℕ) (i : ℕ) (x : FormulaToken) (h : Chosen s i x) where
  -- a byte that chooses another token does not stand there
  pub other_byte : (c : ℕ) → x ≢ token_for c (offset_of x) → get_or s (offset_of x) 0 ≢ c
  other_byte c n e = n (chosen_for _ x h.opens ∙ ap (λ b. token_for b (offset_of x)) e)

  no_digit : x ≢ Number (offset_of x) → digit (get_or s (offset_of x) 0) ≡ false
  no_digit n = go (digit (get_or s (offset_of x) 0)) refl
    where
      go : (d : Bool) → digit (get_or s (offset_of x) 0) ≡ d → d ≡ false
      go false e = refl
      go true e = absurd (n (chosen_for (get_or s (offset_of x) 0) x h.opens ∙ sym (number_for (get_or s (offset_of x) 0) (offset_of x) e)))

  pub no_sign : (c : ℕ) → x ≢ token_for c (offset_of x) → Behind s i c None
  no_sign c n = sign_absent c s i (offset_of x) h.skipped (other_byte c n)

-- ---- signs

module _ (s : List ℕ) (i o : ℕ) where
  pub behind_and : Chosen s i (And o) → Behind s i 38 (Some (o + 1))
  behind_and h = sign_first 38 (λ r. refl) (λ z. absurd (omega arith)) s i o h.skipped h.opens

  pub behind_or : Chosen s i (Or o) → Behind s i 124 (Some (o + 1))
  behind_or h = sign_first 124 (λ r. refl) (λ z. absurd (omega arith)) s i o h.skipped h.opens

-- ---- nothing of a formula

module _ (a : Atoms) (s : List ℕ) (i d : ℕ) (x : FormulaToken) (h : Chosen s i x) where
  nothing : (negates a && next (is_sign "!") (left s i)) ≡ false
      → x ≢ Open (offset_of x) → x ≢ Constant (offset_of x) → x ≢ Number (offset_of x) → x ≢ Name (offset_of x)
      → (r : ℕ) → r ≡ at (left s i) → unary d a (left s i) ≡ refuses (Form r)
  nothing none b c n w r e =
      let no = other_byte s i x h in
      is_atom a s i (offset_of x) d h.skipped none (no 40 b)
      ∙ no_atom s (offset_of x) h.skipped.ends (no_digit s i x h n) (no 73 w) (no 70 w) (no 116 c) (no 102 c) a
      ∙ ap (λ o. refuses (Form o)) (sym (e ∙ ap at h.skipped.is))

  pub nothing_read : x ≢ Not (offset_of x) → x ≢ Open (offset_of x) → x ≢ Constant (offset_of x) → x ≢ Number (offset_of x) → x ≢ Name (offset_of x)
      → (r : ℕ) → r ≡ at (left s i) → unary d a (left s i) ≡ refuses (Form r)
  nothing_read m = nothing (no_not a (left s i) (absent "!" 33 refl s i (no_sign s i x h 33 m)))

module _ (a : Atoms) (s : List ℕ) (i o d : ℕ) where
  -- a `!` that is no operator
  pub not_in_condition : negates a ≡ false → Chosen s i (Not o) → unary d a (left s i) ≡ refuses (Form o)
  not_in_condition n h =
      let e : o ≡ o + 1 - 1 = omega arith in
      nothing a s i d (Not o) h (not_an_operator a (left s i) n) (λ q. cc) (λ q. cc) (λ q. cc) (λ q. cc) o
      (e ∙ sym (its_offset "!" 33 refl s i (o + 1) (sign_first 33 (λ r. refl) (λ z. absurd (omega arith)) s i o h.skipped h.opens)))

  pub constant_read : Chosen s i (Constant o) → (r : Result FormulaRead Refusal) → ConstantAt s o r → Answers s i (unary d a (left s i)) r
  constant_read h r x =
      let no = other_byte s i (Constant o) h in
      answers_from s i o h.skipped.from
      (unary_atom a s i o d h.skipped (no 33 (λ q. cc)) (no 40 (λ q. cc))
      ∙ constant_atom s o h.skipped.ends (no_digit s i (Constant o) h (λ q. cc)) (no 73 (λ q. cc)) (no 70 (λ q. cc)) a)
      r x
