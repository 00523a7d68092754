-- A TEXT THAT MAY GO ON IS NOT YET REFUSED: if it ended here it would not be refused with what it is refused with after one byte more, by the place of its last line.
use Rattle.std.specs.Prelude.{◌≡◌, refl, ◌⊎◌, Bool, true, ◌&&◌, List, ℕ, ◌+◌, ◌≤◌, ◌<◌, leb, length, get_or}
use Rattle.std.proofs.Common.{sym, ap, ◌∙◌, true≢false, arith}
use Rattle.std.proofs.Math.Logic.{inl, inr, ⊎_elim}
use Rattle.std.proofs.Math.Bool.{false}
use borrow.Author.Tests.{eq-eqb, ne_eqb, lt-ltb, leb-true, leb-false}
use Rattle.std.proofs.Math.Dec.{eqb}
use Rattle.meaning.specs.Tests.{all}
use Rattle.meaning.specs.TestLaws.{all_at, and_left, and_right}
use Rattle.refusals.specs.declared.Refusal.{Refusal}
use Rattle.refusals.specs.declared.Refusal.TheVariants.{SolverForm, Literal}
use Rattle.solver_text.specs.declared.Reader.{Reader}
use Rattle.solver_scan.specs.declared.Scan.{Scan}
use Rattle.solver_scan.specs.declared.Place.{Place}
use Rattle.solver_scan.specs.declared.Place.TheVariants.{Start, Comment, AfterS, BeforeWord, Word, AfterWord, AfterToken, BeforeToken, AfterMinus, Digits, Ended, BadForm, BadLiteral}
use Rattle.solver_scan.specs.declared.Verdict.{Verdict}
use Rattle.solver_scan.specs.declared.Verdict.TheVariants.{Unstated, Satisfiable, Unsatisfiable, Unknown}
use Rattle.solver_scan.specs.SolverText.{blank, digit, digit19, word, unstated, satisfiable}
use Rattle.solver_scan.specs.Scanning.{scan, to, bad, done, at_start, in_comment, afterS, before_word, spelt, next_letter, word_done, in_word, after_word, after_token, before_token, past_minus, in_digits, place_step, refused_at, judge, judge_word, scan_end_at}
use Rattle.solver_text.specs.Machine.{at_rest, end_at, in_literal, separated, ends_literal, landed}
use Rattle.solver_scan.specs.Cases.{by, either_way, clash}
use Rattle.solver_agreement.specs.Landing.{ending_either}
use Rattle.solver_agreement.specs.Agreement.{failure, result_of, final_result}

-- ---- the letters of the verdicts

abbrev capital : ℕ → Bool
capital b = leb 65 b && leb b 90

letters : (v : Verdict) → all (length (word v)) (λ i. capital (get_or (word v) i 0)) ≡ true
letters Unstated = refl
letters Satisfiable = refl
letters Unsatisfiable = refl
letters Unknown = refl

-- a verdict that is not yet spelt goes on with its next letter
module _ (v : Verdict) (n : ℕ) (h : spelt v n ≡ false) where
  abbrev letter : ℕ
  letter = get_or (word v) n 0

  more : n < length (word v)
  unfolding spelt
  more = leb-false (length (word v)) n h

  letter_range : (65 ≤ letter) × (letter ≤ 90)
  letter_range =
      let e : capital letter ≡ true = all_at (length (word v)) (λ i. capital (get_or (word v) i 0)) (letters v) n more in
      (leb-true 65 letter (and_left (leb 65 letter) (leb letter 90) e), leb-true letter 90 (and_right (leb 65 letter) (leb letter 90) e))

  spells_on : (a : ℕ) (l c : Bool) (f : ℕ) (g : Bool) (w : ℕ) → in_word (scan Word a v n l c f g w) letter ≡ scan Word (a + 1) v (n + 1) l c f g w
  unfolding in_word next_letter blank
  spells_on a l c f g w =
      let i : 65 ≤ letter = letter_range.0 in
      let other : (b : ℕ) → b < 65 → eqb letter b ≡ false = λ b k. ne_eqb letter b (λ e. absurd (omega arith)) in
      rw (other 32 (omega arith), other 9 (omega arith), other 10 (omega arith), lt-ltb n (length (word v)) more, eq-eqb letter letter refl)

-- ---- what a text is refused with that ends in a state

module _ (last kept : ℕ) (x : Refusal) where
  abbrev Fails : Reader → Type 0
  Fails r = result_of r ≡ failure x

  judged_at : (s : Scan) (t : List ℕ) → Fails (at_rest (judge s) t) → x ≡ SolverForm s.at
  unfolding judge
  judged_at s t =
      either_way P (unstated s.verdict) nay (either_way P (satisfiable s.verdict) (either_way P s.closed yea nay) (either_way P s.listed nay yea))
    where
      P : Scan → Type 0
      P q = Fails (at_rest q t) → x ≡ SolverForm s.at

      nay : P (bad s)
      nay e = cc

      yea : P (done s)
      yea e = clash (cc)

  word_at : (s : Scan) (t : List ℕ) → Fails (at_rest (judge_word s) t) → x ≡ SolverForm s.at
  unfolding judge_word
  word_at s t = either_way (λ q. Fails (at_rest q t) → x ≡ SolverForm s.at) (spelt s.verdict s.letters) (judged_at s t) (λ e. cc)

  apart : (a : ℕ) → x ≡ SolverForm a → x ≡ SolverForm (a + 1) → ⊥
  apart a e k = let z : a ≡ a + 1 = cc in absurd (omega arith)

  unlike : (a f : ℕ) → x ≡ SolverForm a → x ≡ Literal f → ⊥
  unlike a f e k = clash (cc)

  -- ---- to end here, and to go on with one byte

  module _ (a : ℕ) (v : Verdict) (n : ℕ) (l c : Bool) (f : ℕ) (g : Bool) (w : ℕ) (t : List ℕ) where
    abbrev Ends : Place → Type 0
    Ends p = final_result last kept (at_rest (scan p a v n l c f g w) t) ≡ failure x

    abbrev GoesOn : Place → Type 0
    GoesOn p = (b : ℕ) → b < 256 → final_result last kept (landed p last kept (scan p a v n l c f g w) (place_step p (scan p a v n l c f g w) b) t) ≡ failure x

    -- a verdict that is spelt may be followed by a blank, another by its next letter
    in_word_lem : Ends Word → GoesOn Word → ⊥
    unfolding final_result end_at in_literal scan_end_at landed ends_literal place_step in_word word_done next_letter blank
    in_word_lem e k = by (spelt v n) whole part
      where
        s : Scan
        s = scan Word a v n l c f g w

        whole : spelt v n ≡ true → ⊥
        whole h = apart a (word_at s t e) (judged_at (to s AfterWord) t (rw h at (k 32 (omega arith))))

        part : spelt v n ≡ false → ⊥
        part h =
            let i : letter v n h < 256 = omega (arith, (letter_range v n h).1) in
            let q = scan Word (a + 1) v (n + 1) l c f g w in
            apart a (word_at s t e) (word_at q t (ap (λ y. final_result last kept (at_rest y t)) (sym (spells_on v n h a l c f g w)) ∙ k (letter v n h) i))

    -- a literal may be followed by a byte that none can have, or by the line's end
    in_digits_lem : GoesOn Digits → ⊥
    unfolding final_result end_at in_literal scan_end_at landed ends_literal separated place_step in_digits blank digit
    in_digits_lem k = ⊎_elim (unlike a f here) (apart a here) (ending_either last kept P s (to s Start) t (λ e. inl (cc)) (λ u e. inr (judged_at (to s Start) u e)) (k 10 (omega arith)))
      where
        s : Scan
        s = scan Digits a v n l c f g w

        P : Reader → Type 0
        P r = final_result last kept r ≡ failure x → (x ≡ Literal f) ⊎ (x ≡ SolverForm (a + 1))

        here : x ≡ SolverForm a
        here = let e : failure (SolverForm a) ≡ failure x = k 120 (omega arith) in cc

    after_minus : Ends AfterMinus → GoesOn AfterMinus → ⊥
    unfolding final_result end_at in_literal scan_end_at landed ends_literal place_step past_minus digit19
    after_minus e k = ⊎_elim (unlike a f here) (apart a here) (ending_either last kept P s (judge s) t (λ e. inl (cc)) (λ u e. inr (judged_at s u e)) (k 49 (omega arith)))
      where
        s : Scan
        s = scan Digits (a + 1) v n l c f g 1

        P : Reader → Type 0
        P r = result_of r ≡ failure x → (x ≡ Literal f) ⊎ (x ≡ SolverForm (a + 1))

        here : x ≡ SolverForm a
        here = cc

    pub undecided : (p : Place) → refused_at p ≡ false → Ends p → GoesOn p → ⊥
    unfolding refused_at final_result end_at in_literal scan_end_at landed ends_literal place_step at_start in_comment afterS before_word after_word after_token before_token past_minus blank digit19
    undecided Start h e k = let s = scan Start a v n l c f g w in apart a (judged_at s t e) (judged_at (to s Start) t (k 10 (omega arith)))
    undecided Comment h e k = let s = scan Comment a v n l c f g w in apart a (judged_at s t e) (judged_at (to s Start) t (k 10 (omega arith)))
    undecided AfterS h e k = let o : failure (SolverForm (a + 1)) ≡ failure x = k 32 (omega arith) in apart a (cc) (cc)
    undecided BeforeWord h e k = let o : failure (SolverForm (a + 1)) ≡ failure x = k 32 (omega arith) in apart a (cc) (cc)
    undecided Word h e k = in_word_lem e k
    undecided AfterWord h e k = let s = scan AfterWord a v n l c f g w in apart a (judged_at s t e) (judged_at (to s AfterWord) t (k 32 (omega arith)))
    undecided AfterToken h e k = let s = scan AfterToken a v n l c f g w in apart a (judged_at s t e) (judged_at (to s BeforeToken) t (k 32 (omega arith)))
    undecided BeforeToken h e k = let s = scan BeforeToken a v n l c f g w in apart a (judged_at s t e) (judged_at (to s BeforeToken) t (k 32 (omega arith)))
    undecided AfterMinus h e k = after_minus e k
    undecided Digits h e k = in_digits_lem k
    undecided Ended h e k = clash (cc)
    undecided BadForm h e k = absurd (true≢false h)
    undecided BadLiteral h e k = absurd (true≢false h)
