-- What a blank, a line feed, any other byte and the end of the text make of a scan, as the code takes them; by the place, this is what the definition says.
use Rattle.std.specs.Prelude.{◌≡◌, refl, Bool, false, cond, ℕ, ◌+◌, ◌<◌, eqb}
use Rattle.std.proofs.Common.{sym, ap, ◌∙◌, lt-ltb}
use Rattle.solver_scan.specs.declared.Scan.{Scan}
use Rattle.solver_scan.specs.declared.Place.{Place}
use Rattle.solver_scan.specs.declared.Place.TheVariants.{Start, Comment, AfterS, BeforeWord, Word, AfterWord, AfterToken, BeforeToken, AfterMinus, Digits, Ended, BadForm, BadLiteral}
use Rattle.solver_scan.specs.declared.Verdict.{Verdict}
use Rattle.solver_scan.specs.SolverText.{blank, digit19, unstated, satisfiable}
use Rattle.solver_scan.specs.Scanning.{scan, to, bad, start_byte, at_start, in_comment, afterS, first_letter, before_word, spelt, next_letter, word_done, in_word, after_word, after_token, token_byte, before_token, past_minus, digit_byte, in_digits, place_step, refused_at, judge, judge_word, scan_end_at}
use Rattle.solver_scan.specs.Cases.{by}

-- ---- a byte that only changes the place

unfoldable pub offset : Place → ℕ → ℕ
offset p a = cond (refused_at p) a (a + 1)

abbrev pub taken : Scan → Place → Scan
taken s p = scan p (offset p s.at) s.verdict s.letters s.listed s.closed s.from s.minus s.value

unfoldable pub after_blank : Place → Verdict → ℕ → Place
after_blank Start v n = BadForm
after_blank Comment v n = Comment
after_blank AfterS v n = BeforeWord
after_blank BeforeWord v n = BeforeWord
after_blank Word v n = cond (spelt v n) AfterWord BadForm
after_blank AfterWord v n = AfterWord
after_blank AfterToken v n = BeforeToken
after_blank BeforeToken v n = BeforeToken
after_blank AfterMinus v n = BadForm
after_blank Digits v n = BeforeToken
after_blank Ended v n = BadForm
after_blank BadForm v n = BadForm
after_blank BadLiteral v n = BadLiteral

unfoldable pub after_line_feed : Place → Verdict → ℕ → Place
after_line_feed Start v n = Start
after_line_feed Comment v n = Start
after_line_feed AfterS v n = BadForm
after_line_feed BeforeWord v n = BadForm
after_line_feed Word v n = cond (spelt v n) Start BadForm
after_line_feed AfterWord v n = Start
after_line_feed AfterToken v n = Start
after_line_feed BeforeToken v n = Start
after_line_feed AfterMinus v n = BadForm
after_line_feed Digits v n = Start
after_line_feed Ended v n = BadForm
after_line_feed BadForm v n = BadForm
after_line_feed BadLiteral v n = BadLiteral

-- the place alone changes
abbrev pub placed : Scan → Place → Scan
placed s p = scan p s.at s.verdict s.letters s.listed s.closed s.from s.minus s.value

-- a scan that has this place already
pub here : (s : Scan) (p : Place) → s.place ≡ p → placed s p ≡ s
here s p e = ap (placed s) (sym e)

-- the verdict ends here, if it is spelt
word_taken : (s : Scan) (p : Place) → refused_at p ≡ false → taken s (cond (spelt s.verdict s.letters) p BadForm) ≡ word_done s p
unfolding offset refused_at word_done
word_taken s p h = by (spelt s.verdict s.letters) (λ e. rw (e, h)) (λ e. rw e)

pub space_taken : (s : Scan) → taken s (after_blank s.place s.verdict s.letters) ≡ place_step s.place s 32
unfolding place_step at_start in_comment afterS before_word in_word after_word after_token before_token past_minus in_digits blank digit19 after_blank offset refused_at
space_taken s = go s.place refl
  where
    go : (p : Place) → s.place ≡ p → taken s (after_blank p s.verdict s.letters) ≡ place_step p s 32
    go Start e = refl
    go Comment e = refl
    go AfterS e = refl
    go BeforeWord e = refl
    go Word e = word_taken s AfterWord refl
    go AfterWord e = refl
    go AfterToken e = refl
    go BeforeToken e = refl
    go AfterMinus e = refl
    go Digits e = refl
    go Ended e = refl
    go BadForm e = here s BadForm e
    go BadLiteral e = here s BadLiteral e

-- "Blanks are spaces or tabs"
pub tab_taken : (s : Scan) → taken s (after_blank s.place s.verdict s.letters) ≡ place_step s.place s 9
unfolding place_step at_start in_comment afterS before_word in_word after_word after_token before_token past_minus in_digits blank digit19
tab_taken s = space_taken s ∙ same s.place
  where
    same : (p : Place) → place_step p s 32 ≡ place_step p s 9
    same Start = refl
    same Comment = refl
    same AfterS = refl
    same BeforeWord = refl
    same Word = refl
    same AfterWord = refl
    same AfterToken = refl
    same BeforeToken = refl
    same AfterMinus = refl
    same Digits = refl
    same Ended = refl
    same BadForm = refl
    same BadLiteral = refl

pub line_feed_taken : (s : Scan) → taken s (after_line_feed s.place s.verdict s.letters) ≡ place_step s.place s 10
unfolding place_step at_start in_comment afterS before_word in_word after_word after_token before_token past_minus in_digits blank digit19 after_line_feed offset refused_at
line_feed_taken s = go s.place refl
  where
    go : (p : Place) → s.place ≡ p → taken s (after_line_feed p s.verdict s.letters) ≡ place_step p s 10
    go Start e = refl
    go Comment e = refl
    go AfterS e = refl
    go BeforeWord e = refl
    go Word e = word_taken s Start refl
    go AfterWord e = refl
    go AfterToken e = refl
    go BeforeToken e = refl
    go AfterMinus e = refl
    go Digits e = refl
    go Ended e = refl
    go BadForm e = here s BadForm e
    go BadLiteral e = here s BadLiteral e

-- ---- another byte

unfoldable pub other_byte : Place → Scan → ℕ → Scan
other_byte Start s b = start_byte s b
other_byte Comment s b = to s Comment
other_byte AfterS s b = bad s
other_byte BeforeWord s b = first_letter s b
other_byte Word s b = next_letter s b
other_byte AfterWord s b = bad s
other_byte AfterToken s b = bad s
other_byte BeforeToken s b = token_byte s b
other_byte AfterMinus s b = past_minus s b
other_byte Digits s b = digit_byte s b
other_byte Ended s b = bad s
other_byte BadForm s b = s
other_byte BadLiteral s b = s

pub other_taken : (s : Scan) (b : ℕ) → b < 256 → blank b ≡ false → eqb b 10 ≡ false → other_byte s.place s b ≡ place_step s.place s b
unfolding other_byte place_step at_start in_comment afterS before_word in_word after_word after_token before_token in_digits
other_taken s b small h k = go s.place
  where
    go : (p : Place) → other_byte p s b ≡ place_step p s b
    go Start = rw k
    go Comment = rw (k, lt-ltb b 256 small)
    go AfterS = rw h
    go BeforeWord = rw h
    go Word = rw (h, k)
    go AfterWord = rw (h, k)
    go AfterToken = rw (h, k)
    go BeforeToken = rw (h, k)
    go AfterMinus = refl
    go Digits = rw (h, k)
    go Ended = refl
    go BadForm = refl
    go BadLiteral = refl

-- ---- the end of the text

unfoldable pub judged_place : Verdict → Bool → Bool → Place
judged_place v listed closed = cond (unstated v) BadForm (cond (satisfiable v) (cond closed Ended BadForm) (cond listed BadForm Ended))

unfoldable pub end_place : Place → Place → Bool → Place
end_place Start fine spelt = fine
end_place Comment fine spelt = fine
end_place AfterS fine spelt = BadForm
end_place BeforeWord fine spelt = BadForm
end_place Word fine spelt = cond spelt fine BadForm
end_place AfterWord fine spelt = fine
end_place AfterToken fine spelt = fine
end_place BeforeToken fine spelt = fine
end_place AfterMinus fine spelt = BadForm
end_place Digits fine spelt = fine
end_place Ended fine spelt = Ended
end_place BadForm fine spelt = BadForm
end_place BadLiteral fine spelt = BadLiteral

judge_placed : (s : Scan) → placed s (judged_place s.verdict s.listed s.closed) ≡ judge s
unfolding judged_place judge
judge_placed s =
    by (unstated s.verdict) (λ e. rw e)
    (λ e. by (satisfiable s.verdict) (λ h. by s.closed (λ k. rw (e, h, k)) (λ k. rw (e, h, k))) (λ h. by s.listed (λ k. rw (e, h, k)) (λ k. rw (e, h, k))))

pub end_placed : (s : Scan) → placed s (end_place s.place (judged_place s.verdict s.listed s.closed) (spelt s.verdict s.letters)) ≡ scan_end_at s.place s
unfolding end_place scan_end_at judge_word
end_placed s = go s.place refl
  where
    fine : Place
    fine = judged_place s.verdict s.listed s.closed

    go : (p : Place) → s.place ≡ p → placed s (end_place p fine (spelt s.verdict s.letters)) ≡ scan_end_at p s
    go Start e = judge_placed s
    go Comment e = judge_placed s
    go AfterS e = refl
    go BeforeWord e = refl
    go Word e = by (spelt s.verdict s.letters) (λ h. rw h (judge_placed s)) (λ h. rw h)
    go AfterWord e = judge_placed s
    go AfterToken e = judge_placed s
    go BeforeToken e = judge_placed s
    go AfterMinus e = refl
    go Digits e = judge_placed s
    go Ended e = here s Ended e
    go BadForm e = here s BadForm e
    go BadLiteral e = here s BadLiteral e
