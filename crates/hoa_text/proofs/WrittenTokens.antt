-- Numbers and names that are written are read back as tokens.
use Rattle.std.specs.Prelude.{◌≡◌, refl, true, false, cond, List, [], ◌∷◌, ◌++◌, ℕ, suc, ◌+◌, ◌/◌, ◌%◌, ◌≤◌, ◌<◌, length}
use Rattle.std.proofs.Common.{sym, ap, ◌∙◌, subst, arith, lt-ltb, le-ltb, le-leb, ne_eqb}
use Rattle.std.proofs.Math.Option.{some, map}
use Rattle.std.proofs.Math.Decide.{dec_lt}
use Rattle.automaton.specs.Names.{printable_means}
use Rattle.automaton.specs.Value.{printable}
use Rattle.meaning.specs.TestLaws.{and_true, and_left, and_right}
use Rattle.hoa_text.specs.Tokens.{digit, number, quoted, value, token, piece, in_quotes, Stream, stands, placed, lex}
use Rattle.hoa_text.specs.Grammar.{number_of, gives, due}
use Rattle.hoa_text.specs.Header.{all_bytes}
use Rattle.hoa_text.specs.Written.{decimal}
use Rattle.hoa_text.specs.RunOffsets.{digit_blank}

-- ---- how a text is read back, at whatever offset it stands

-- x is what f gives at some offset
pub record SomeOffset {A : Type 0} (x : A) (f : ℕ → A) : Type 0 where
  pub offset : ℕ
  pub is : x ≡ f offset

-- p, from the text s on, comes to what k does from the text r on
abbrev pub Reads : {A : Type 0} → (Stream → A) → List ℕ → (Stream → A) → List ℕ → Type 0
Reads p s k r = (o : ℕ) → SomeOffset (p (lex s 0 o)) (λ i. k (lex r 0 i))

-- a text whose first byte is no digit
pub record NoDigit (s : List ℕ) : Type 0 where
  pub byte : ℕ
  pub more : List ℕ
  pub is : s ≡ byte ∷ more
  pub no_digit : digit byte ≡ false

pub first_byte : (b : ℕ) (r : List ℕ) → digit b ≡ false → NoDigit (b ∷ r)
first_byte b r h = record { byte = b; more = r; is = refl; no_digit = h }

-- ---- numbers

digit_is : (d : ℕ) → d < 10 → digit (48 + d) ≡ true
digit_is d h = and_true (le-leb 48 (48 + d) (omega arith)) (le-leb (48 + d) 57 (omega arith))

module _ (n b : ℕ) (r : List ℕ) (hb : digit b ≡ false) (o : ℕ) where
  one_digit : n < 10 → piece (48 + n) (b ∷ r) ≡ token (number n) 0
  one_digit h =
      let e : value ((48 + n) ∷ []) ≡ n = omega arith in
      rw (digit_blank (48 + n) (digit_is n h), digit_is n h, hb) (ap (λ v. token (number v) 0) e)

  two_digits : 10 ≤ n → n < 100 → piece (48 + n / 10) ((48 + n % 10) ∷ b ∷ r) ≡ token (number n) 1
  two_digits h g =
      let high : digit (48 + n / 10) ≡ true = digit_is (n / 10) (omega arith) in
      let low : digit (48 + n % 10) ≡ true = digit_is (n % 10) (omega arith) in
      let z : 48 + n / 10 ≡ 48 → ⊥ = λ e. omega arith in
      let e : value ((48 + n / 10) ∷ (48 + n % 10) ∷ []) ≡ n = omega arith in
      rw (digit_blank (48 + n / 10) high, high, low, hb, ne_eqb (48 + n / 10) 48 z) (ap (λ v. token (number v) 1) e)

  decimal_read : n < 100 → SomeOffset (lex (decimal n ++ (b ∷ r)) 0 o) (λ i. stands o (number n) (lex (b ∷ r) 0 i))
  decimal_read h = go (dec_lt n 10)
    where
      one : List ℕ
      one = (48 + n) ∷ []

      two : List ℕ
      two = (48 + n / 10) ∷ (48 + n % 10) ∷ []

      go : Dec (n < 10) → SomeOffset (lex (decimal n ++ (b ∷ r)) 0 o) (λ i. stands o (number n) (lex (b ∷ r) 0 i))
      go (yes l) = record {
        offset = o + 1;
        is = ap (λ t. lex (cond t one two ++ (b ∷ r)) 0 o) (lt-ltb n 10 l)
            ∙ ap (λ x. placed x o (o + length ((48 + n) ∷ b ∷ r)) (λ k. lex (b ∷ r) k (o + 1))) (one_digit l);
      }
      go (no l) = record {
        offset = o + 1 + 1;
        is = ap (λ t. lex (cond t one two ++ (b ∷ r)) 0 o) (le-ltb n 10 (omega arith))
            ∙ ap (λ x. placed x o (o + length ((48 + n / 10) ∷ (48 + n % 10) ∷ b ∷ r)) (λ k. lex ((48 + n % 10) ∷ b ∷ r) k (o + 1))) (two_digits (omega arith) h);
      }

pub number_read : (n : ℕ) → n < 100 → (s : List ℕ) → NoDigit s → (o : ℕ) → SomeOffset (lex (decimal n ++ s) 0 o) (λ i. stands o (number n) (lex s 0 i))
number_read n h s d o =
    subst (λ u. SomeOffset (lex (decimal n ++ u) 0 o) (λ i. stands o (number n) (lex u 0 i))) (sym d.is) (decimal_read n d.byte d.more d.no_digit o h)

pub due_number : (n : ℕ) → n < 100 → (s : List ℕ) → NoDigit s → Reads (due number_of) (decimal n ++ s) (λ u. gives (n, u)) s
due_number n h s d o = let k = number_read n h s d o in record { offset = k.offset; is = ap (due number_of) k.is }

-- ---- names

quotes_read : (w r : List ℕ) → all_bytes printable w ≡ true → in_quotes false (w ++ (34 ∷ r)) ≡ some w
quotes_read [] r h = refl
quotes_read (b ∷ w) r h =
    let p = printable_means b (and_left (printable b) (all_bytes printable w) h) in
    let q = quotes_read w r (and_right (printable b) (all_bytes printable w) h) in
    rw (ne_eqb b 34 p.no_quote, ne_eqb b 92 p.no_backslash) (ap (map (λ v. b ∷ v)) q)

pass_over : (w r : List ℕ) (n o : ℕ) → SomeOffset (lex (w ++ r) (length w + n) o) (λ i. lex r n i)
pass_over [] r n o = let e : 0 + n ≡ n = omega arith in record { offset = o; is = ap (λ k. lex r k o) e }
pass_over (b ∷ w) r n o =
    let e : suc (length w) + n ≡ suc (length w + n) = omega arith in
    let p = pass_over w r n (o + 1) in
    record { offset = p.offset; is = ap (λ k. lex (b ∷ (w ++ r)) k o) e ∙ p.is }

pub quoted_read : (w r : List ℕ) → all_bytes printable w ≡ true → (o : ℕ) → SomeOffset (lex (34 ∷ (w ++ (34 ∷ r))) 0 o) (λ i. stands o (quoted w) (lex r 0 i))
quoted_read w r h o =
    let p = pass_over w (34 ∷ r) 1 (o + 1) in
    record { offset = p.offset + 1; is = rw (quotes_read w r h) (ap (stands o (quoted w)) p.is) }
