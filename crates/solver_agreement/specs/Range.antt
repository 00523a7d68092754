-- A byte, and the bytes of a text, leave every field of the state in its range.
use Rattle.std.specs.Prelude.{◌≡◌, true, List, [], ◌∷◌, ℕ, ◌-◌, ◌≤◌, ◌<◌, ltb, leb, eqb, ℤ, pos, nat_abs, length, get_or, set}
use Rattle.std.proofs.Math.Decide.{ℕ_discrete, dec_lt}
use Rattle.std.proofs.Common.{arith, leb-true, get_or-set_same, get_or-set_other}
use Rattle.std.specs.Int.Signed.{lt_z}
use Rattle.std.proofs.Math.Seq.{set_out}
use Rattle.meaning.specs.TestLaws.{and_right}
use Rattle.solver_text.specs.declared.Reader.{Reader}
use Rattle.solver_scan.specs.declared.Scan.{Scan}
use Rattle.solver_scan.specs.declared.Place.{Place}
use Rattle.solver_scan.specs.declared.Place.TheVariants.{Start, Comment, AfterS, BeforeWord, Word, AfterWord, AfterToken, BeforeToken, AfterMinus, Digits, Ended, BadForm, BadLiteral}
use Rattle.solver_scan.specs.SolverText.{blank, digit, digit19, word, unstated, literal_of}
use Rattle.solver_scan.specs.Scanning.{at_start, in_comment, afterS, before_word, spelt, follows, turns, next_letter, word_done, in_word, after_word, after_token, first_byte, token_byte, before_token, past_minus, grow, in_digits, place_step, refused_at, at_limit, scan_byte}
use Rattle.solver_literals.specs.Giving.{mark_of, held, fits, given}
use Rattle.solver_text.specs.Machine.{ending, ends_literal, landed, step, run}
use Rattle.solver_text.specs.Calls.{InRange}
use Rattle.solver_scan.specs.Words.{follows_short}
use Rattle.solver_scan.specs.Cases.{either, either_way}

-- ---- the scan

abbrev pub InScan : Scan → Type 0
InScan s = (s.letters ≤ 13) × (s.value ≤ 2000000009)

digit_small : (b : ℕ) → digit b ≡ true → b - 48 ≤ 9
unfolding digit
digit_small b e = omega (arith, leb-true b 57 (and_right (leb 48 b) (leb b 57) e))

digit19_small : (b : ℕ) → digit19 b ≡ true → b - 48 ≤ 9
unfolding digit19
digit19_small b e = omega (arith, leb-true b 57 (and_right (leb 49 b) (leb b 57) e))

grow_small : (w d : ℕ) → w ≤ 2000000009 → d ≤ 9 → grow w d ≤ 2000000009
unfolding grow
grow_small w d h k = either (λ x. x ≤ 2000000009) (leb w 200000000) (λ e. omega (arith, leb-true w 200000000 e)) (λ e. h)

letter_kept : (s : Scan) (b : ℕ) → InScan s → InScan (next_letter s b)
unfolding next_letter
letter_kept s b h =
    either InScan (follows (word s.verdict) s.letters b)
    (λ e. let k : s.letters < 13 = follows_short s.verdict s.letters b e in (omega arith, h.1))
    (λ e. either_way InScan (turns s.verdict s.letters b) (omega arith, h.1) h)

-- ---- the table

abbrev pub Entries : List ℕ → Type 0
Entries t = (v : ℕ) → v < 5121 → get_or t v 0 ≤ 2

set_entries : (t : List ℕ) (i k : ℕ) → k ≤ 2 → Entries t → Entries (set t i k)
set_entries t i k h e v g = go (ℕ_discrete v i) (dec_lt i (length t))
  where
    go : Dec (v ≡ i) → Dec (i < length t) → get_or (set t i k) v 0 ≤ 2
    go (yes z) (yes l) = rw (z, get_or-set_same t i k 0 l) h
    go (yes z) (no l) = rw (set_out t i k (omega arith)) (e v g)
    go (no z) l = rw (get_or-set_other t i v k 0 z) (e v g)

mark_small : (l : ℤ) → mark_of l ≤ 2
mark_small l = either_way (λ x. x ≤ 2) (lt_z l (pos 0)) (omega arith) (omega arith)

-- ---- the reader

abbrev pub Within : Reader → Type 0
Within r = InScan r.scan × Entries r.named

module _ (last kept : ℕ) where
  -- a literal that ends
  pub ending_kept : (s next : Scan) (t : List ℕ) → InScan s → InScan next → Entries t → Within (ending last kept s next t)
  unfolding ending given
  ending_kept s next t h k e =
      let l = literal_of s.minus s.value in (
        either_way InScan (fits last kept l t) k h,
        either_way Entries (ltb last (nat_abs l)) e
            (either_way Entries (held kept (nat_abs l)) (either_way Entries (eqb (get_or t (nat_abs l) 0) 0) (set_entries t (nat_abs l) (mark_of l) (mark_small l) e) e) e),
      )

  place_kept : (p : Place) (s : Scan) (b : ℕ) → InScan s → InScan (place_step p s b)
  unfolding place_step at_start in_comment afterS before_word word_done in_word after_word after_token first_byte token_byte before_token past_minus in_digits
  place_kept p s b h = go p
    where
      S : Scan → Type 0
      S x = InScan x

      go : (p : Place) → S (place_step p s b)
      go Start =
          either_way S (eqb b 10) h
          (either_way S (eqb b 99) h (either_way S (eqb b 115) (either_way S (unstated s.verdict) h h) (either_way S (eqb b 118) h h)))
      go Comment = either_way S (eqb b 10) h (either_way S (ltb b 256) h h)
      go AfterS = either_way S (blank b) h h
      go BeforeWord = either_way S (blank b) h (either_way S (eqb b 83) (omega arith, h.1) (either_way S (eqb b 85) (omega arith, h.1) h))
      go Word =
          either_way S (blank b) (either_way S (spelt s.verdict s.letters) h h)
          (either_way S (eqb b 10) (either_way S (spelt s.verdict s.letters) h h) (letter_kept s b h))
      go AfterWord = either_way S (blank b) h (either_way S (eqb b 10) h h)
      go AfterToken = either_way S (blank b) h (either_way S (eqb b 10) h h)
      go BeforeToken =
          either_way S (blank b) h
          (either_way S (eqb b 10) h
          (either_way S s.closed h
          (either_way S (eqb b 45) (h.0, omega arith)
          (either_way S (eqb b 48) h (either S (digit19 b) (λ d. (h.0, omega (arith, digit19_small b d))) (λ d. h))))))
      go AfterMinus = either S (digit19 b) (λ d. (h.0, omega (arith, digit19_small b d))) (λ d. h)
      go Digits =
          either_way S (blank b) h
          (either_way S (eqb b 10) h (either S (digit b) (λ d. (h.0, grow_small s.value (b - 48) h.1 (digit_small b d))) (λ d. h)))
      go Ended = h
      go BadForm = h
      go BadLiteral = h

  step_within : (s : Scan) (t : List ℕ) (b : ℕ) → InScan s → Entries t → Within (step last kept s t b)
  unfolding step landed scan_byte at_limit
  step_within s t b h e =
      let next : InScan (scan_byte s b) = either_way InScan (eqb s.at 4294967295) (either_way InScan (refused_at s.place) h h) (place_kept s.place s b h) in
      either_way Within (ends_literal s.place (scan_byte s b).place) (ending_kept s (scan_byte s b) t h next e) (next, e)

  pub step_kept : (r : Reader) (b : ℕ) → InRange r → InRange (step last kept r.scan r.named b)
  step_kept r b h =
      let w = step_within r.scan r.named b (h.letters_le, h.value_le) h.named_le in
      record { letters_le = w.0.0; value_le = w.0.1; named_le = w.1 }

  pub run_kept : (r : Reader) (u : List ℕ) → InRange r → InRange (run last kept r u)
  run_kept r [] h = h
  run_kept r (b ∷ u) h = run_kept (step last kept r.scan r.named b) u (step_kept r b h)
