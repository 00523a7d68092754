-- WHERE A READER STANDS: the offset that it carries is the number of bytes read, or that of a fault among them.
use Rattle.std.specs.Prelude.{◌≡◌, refl, true, List, [], ◌∷◌, ℕ, ◌+◌, ◌<◌, ltb, eqb, length}
use Rattle.std.proofs.Common.{sym, ap, ⊎_elim, true≢false, zero-add, arith}
use Rattle.std.proofs.Math.Path.{subst}
use Rattle.std.proofs.Math.Bool.{false}
use Rattle.solver_text.specs.declared.Reader.{Reader}
use Rattle.solver_scan.specs.declared.Scan.{Scan}
use Rattle.solver_scan.specs.declared.Place.{Place}
use Rattle.solver_scan.specs.declared.Place.TheVariants.{Start, Comment, AfterS, BeforeWord, Word, AfterWord, AfterToken, BeforeToken, AfterMinus, Digits, Ended, BadForm, BadLiteral}
use Rattle.solver_scan.specs.SolverText.{blank, digit, digit19, word, unstated, literal_of}
use Rattle.solver_scan.specs.Scanning.{at_start, in_comment, afterS, before_word, spelt, follows, turns, next_letter, word_done, in_word, after_word, after_token, first_byte, token_byte, before_token, past_minus, in_digits, place_step, refused_at, at_limit, scan_byte}
use Rattle.solver_literals.specs.Giving.{fits}
use Rattle.solver_text.specs.Machine.{ending, ends_literal, landed, step, run, fresh}
use Rattle.solver_scan.specs.Cases.{by, either_way}
use Rattle.solver_agreement.specs.Staying.{refused_place, refused_byte}

-- k bytes were read, and the reader has this offset
abbrev pub Stands : ℕ → Place → ℕ → Type 0
Stands k Start at = at ≡ k
Stands k Comment at = at ≡ k
Stands k AfterS at = at ≡ k
Stands k BeforeWord at = at ≡ k
Stands k Word at = at ≡ k
Stands k AfterWord at = at ≡ k
Stands k AfterToken at = at ≡ k
Stands k BeforeToken at = at ≡ k
Stands k AfterMinus at = at ≡ k
Stands k Digits at = at ≡ k
Stands k Ended at = at ≡ k
Stands k BadForm at = at < k
Stands k BadLiteral at = Unit {0}

module _ (last kept k : ℕ) where
  abbrev Moved : Scan → Type 0
  Moved s = Stands (k + 1) s.place s.at

  abbrev AtRest : Reader → Type 0
  AtRest r = Moved r.scan

  module _ (s : Scan) (t : List ℕ) (b : ℕ) (here : s.at ≡ k) where
    on : s.at + 1 ≡ k + 1
    on = ap (λ x. x + 1) here

    fault : s.at < k + 1
    fault = omega arith

    start_moved : Moved (at_start s b)
    unfolding at_start
    start_moved = either_way Moved (eqb b 10) on (either_way Moved (eqb b 99) on (either_way Moved (eqb b 115) (either_way Moved (unstated s.verdict) on fault) (either_way Moved (eqb b 118) on fault)))

    word_moved : Moved (in_word s b)
    unfolding in_word word_done next_letter
    word_moved =
        let done = spelt s.verdict s.letters in
        either_way Moved (blank b) (either_way Moved done on fault)
        (either_way Moved (eqb b 10) (either_way Moved done on fault) (either_way Moved (follows (word s.verdict) s.letters b) on (either_way Moved (turns s.verdict s.letters b) on fault)))

    token_moved : Moved (before_token s b)
    unfolding before_token token_byte first_byte
    token_moved = either_way Moved (blank b) on (either_way Moved (eqb b 10) on (either_way Moved s.closed fault (either_way Moved (eqb b 45) on (either_way Moved (eqb b 48) on (either_way Moved (digit19 b) on fault)))))

    digits_moved : Moved (in_digits s b)
    unfolding in_digits
    digits_moved = either_way Moved (blank b) on (either_way Moved (eqb b 10) on (either_way Moved (digit b) on fault))

    -- a literal that ends
    literal_moved : (n : Scan) → Moved n → AtRest (ending last kept s n t)
    unfolding ending
    literal_moved n h = either_way Moved (fits last kept (literal_of s.minus s.value) t) h tt

    -- a byte at a place where the text may go on
    place_moved : (p : Place) → refused_at p ≡ false → Moved (place_step p s b)
    unfolding place_step in_comment afterS before_word after_word after_token past_minus refused_at
    place_moved Start h = start_moved
    place_moved Comment h = either_way Moved (eqb b 10) on (either_way Moved (ltb b 256) on fault)
    place_moved AfterS h = either_way Moved (blank b) on fault
    place_moved BeforeWord h = either_way Moved (blank b) on (either_way Moved (eqb b 83) on (either_way Moved (eqb b 85) on fault))
    place_moved Word h = word_moved
    place_moved AfterWord h = either_way Moved (blank b) on (either_way Moved (eqb b 10) on fault)
    place_moved AfterToken h = either_way Moved (blank b) on (either_way Moved (eqb b 10) on fault)
    place_moved BeforeToken h = token_moved
    place_moved AfterMinus h = either_way Moved (digit19 b) on fault
    place_moved Digits h = digits_moved
    place_moved Ended h = fault
    place_moved BadForm h = absurd (true≢false h)
    place_moved BadLiteral h = absurd (true≢false h)

  pub going : (p : Place) (at : ℕ) → refused_at p ≡ false → Stands k p at → at ≡ k
  unfolding refused_at
  going Start at h e = e
  going Comment at h e = e
  going AfterS at h e = e
  going BeforeWord at h e = e
  going Word at h e = e
  going AfterWord at h e = e
  going AfterToken at h e = e
  going BeforeToken at h e = e
  going AfterMinus at h e = e
  going Digits at h e = e
  going Ended at h e = e
  going BadForm at h e = absurd (true≢false h)
  going BadLiteral at h e = absurd (true≢false h)

  later : (p : Place) (at : ℕ) → refused_at p ≡ true → Stands k p at → Stands (k + 1) p at
  later p at h = ⊎_elim (λ e. subst Later (sym e) more) (λ e. subst Later (sym e) (λ g. tt)) (refused_place p h)
    where
      Later : Place → Type 0
      Later p = Stands k p at → Stands (k + 1) p at

      more : at < k → at < k + 1
      more g = omega arith

  step_moved : (r : Reader) (b : ℕ) → Stands k r.scan.place r.scan.at → AtRest (step last kept r.scan r.named b)
  unfolding step landed scan_byte at_limit
  step_moved r b e = by (refused_at r.scan.place) (λ h. subst AtRest (sym (refused_byte last kept r h b)) (later r.scan.place r.scan.at h e)) goes
    where
      goes : refused_at r.scan.place ≡ false → AtRest (step last kept r.scan r.named b)
      goes h =
          let s = r.scan in
          let here = going s.place s.at h e in
          let next : Moved (scan_byte s b) = either_way Moved (eqb s.at 4294967295) (rw h (fault s r.named b here)) (place_moved s r.named b here s.place h) in
          either_way AtRest (ends_literal s.place (scan_byte s b).place) (literal_moved s r.named b here (scan_byte s b) next) next

module _ (last kept : ℕ) where
  run_stands : (r : Reader) (u : List ℕ) (k : ℕ) → Stands k r.scan.place r.scan.at
      → Stands (k + length u) (run last kept r u).scan.place (run last kept r u).scan.at
  run_stands r [] k h = let e : k ≡ k + length {A = ℕ} [] = omega arith in subst (λ j. Stands j r.scan.place r.scan.at) e h
  run_stands r (b ∷ u) k h =
      let q = run last kept (step last kept r.scan r.named b) u in
      let e : k + 1 + length u ≡ k + length (b ∷ u) = omega arith in
      subst (λ j. Stands j q.scan.place q.scan.at) e (run_stands (step last kept r.scan r.named b) u (k + 1) (step_moved last kept k r b h))

  -- a fresh reader, after a text
  abbrev pub after : List ℕ → Scan
  after text = (run last kept fresh text).scan

  pub text_stands : (text : List ℕ) → Stands (length text) (after text).place (after text).at
  text_stands text = subst (λ j. Stands j (after text).place (after text).at) (zero-add (length text)) (run_stands fresh text 0 refl)
