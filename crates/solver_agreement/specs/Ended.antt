-- The end of a text leaves every field of a reader in its range, and a text that has ended ends again as it is.
use Rattle.std.specs.Prelude.{◌≡◌, List, ℕ}
use Rattle.std.proofs.Math.Path.{refl, ap}
use Rattle.solver_scan.specs.declared.Scan.{Scan}
use Rattle.solver_scan.specs.declared.Place.{Place}
use Rattle.solver_scan.specs.declared.Place.TheVariants.{Start, Comment, AfterS, BeforeWord, Word, AfterWord, AfterToken, BeforeToken, AfterMinus, Digits, Ended, BadForm, BadLiteral}
use Rattle.solver_scan.specs.SolverText.{unstated, satisfiable}
use Rattle.solver_scan.specs.Scanning.{spelt, judge, judge_word, scan_end_at}
use Rattle.solver_scan.specs.Cases.{either_way}
use Rattle.solver_text.specs.declared.Reader.{Reader}
use Rattle.solver_text.specs.Machine.{at_rest, in_literal, end_at, end}
use Rattle.solver_text.specs.Calls.{InRange}
use Rattle.solver_agreement.specs.Landing.{ending_either}
use Rattle.solver_agreement.specs.Range.{InScan, Entries, Within, ending_kept}

-- ---- the ranges

judged : (s : Scan) → InScan s → InScan (judge s)
unfolding judge
judged s h =
    either_way InScan (unstated s.verdict) h
    (either_way InScan (satisfiable s.verdict) (either_way InScan s.closed h h) (either_way InScan s.listed h h))

module _ (last kept : ℕ) where
  scan_ended : (p : Place) (s : Scan) → InScan s → InScan (scan_end_at p s)
  unfolding scan_end_at judge_word
  scan_ended Start s h = judged s h
  scan_ended Comment s h = judged s h
  scan_ended AfterS s h = h
  scan_ended BeforeWord s h = h
  scan_ended Word s h = either_way InScan (spelt s.verdict s.letters) (judged s h) h
  scan_ended AfterWord s h = judged s h
  scan_ended AfterToken s h = judged s h
  scan_ended BeforeToken s h = judged s h
  scan_ended AfterMinus s h = h
  scan_ended Digits s h = judged s h
  scan_ended Ended s h = h
  scan_ended BadForm s h = h
  scan_ended BadLiteral s h = h

  end_within : (p : Place) (s : Scan) (t : List ℕ) → InScan s → Entries t → Within (end_at p last kept s t)
  unfolding end_at
  end_within p s t h e =
      let next = scan_ended p s h in
      either_way Within (in_literal p) (ending_kept last kept s (scan_end_at p s) t h next e) (next, e)

  pub end_kept : (r : Reader) → InRange r → InRange (end last kept r)
  end_kept r h =
      let w = end_within r.scan.place r.scan r.named (h.letters_le, h.value_le) h.named_le in
      record { letters_le = w.0.0; value_le = w.0.1; named_le = w.1 }

  -- ---- once more

  abbrev Still : Reader → Type 0
  Still r = end last kept r ≡ r

  judged_still : (s : Scan) (t : List ℕ) → Still (at_rest (judge s) t)
  unfolding judge end_at in_literal scan_end_at
  judged_still s t =
      let P : Scan → Type 0 = λ x. Still (at_rest x t) in
      either_way P (unstated s.verdict) refl
      (either_way P (satisfiable s.verdict) (either_way P s.closed refl refl) (either_way P s.listed refl refl))

  still : (p : Place) (s : Scan) (t : List ℕ) → s.place ≡ p → Still (end_at p last kept s t)
  unfolding end_at in_literal scan_end_at judge_word
  still Start s t e = judged_still s t
  still Comment s t e = judged_still s t
  still AfterS s t e = refl
  still BeforeWord s t e = refl
  still Word s t e = either_way (λ x. Still (at_rest x t)) (spelt s.verdict s.letters) (judged_still s t) refl
  still AfterWord s t e = judged_still s t
  still AfterToken s t e = judged_still s t
  still BeforeToken s t e = judged_still s t
  still AfterMinus s t e = refl
  still Digits s t e = ending_either last kept Still s (judge s) t refl (λ u. judged_still s u)
  still Ended s t e = ap (λ p. end_at p last kept s t) e
  still BadForm s t e = ap (λ p. end_at p last kept s t) e
  still BadLiteral s t e = ap (λ p. end_at p last kept s t) e

  pub end_again : (r : Reader) → end last kept (end last kept r) ≡ end last kept r
  end_again r = still r.scan.place r.scan r.named refl
