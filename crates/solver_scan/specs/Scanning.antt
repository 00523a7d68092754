-- DEFINITION: what a scan makes of each byte, at each place of a line, from every state; and of the end of the text. A literal that ends is
-- judged by the reader above (`solver_text`); on whole texts the two say what the definition in `SolverText` says (law `agrees` in crate
-- `solver_agreement`).
use Rattle.std.specs.Prelude.{Bool, true, false, cond, ◌&&◌, List, ℕ, ◌+◌, ◌-◌, ◌*◌, ltb, leb, eqb, length, get_or}
use Prim.Native.Char.{code}
use Rattle.solver_scan.specs.declared.Scan.{Scan}
use Rattle.solver_scan.specs.declared.Place.{Place}
use Rattle.solver_scan.specs.declared.Place.TheVariants.{Start, Comment, AfterS, BeforeWord, Word, AfterWord, AfterToken, BeforeToken, AfterMinus, Digits, Ended, BadForm, BadLiteral}
use Rattle.solver_scan.specs.declared.Verdict.{Verdict}
use Rattle.solver_scan.specs.declared.Verdict.TheVariants.{Unstated, Satisfiable, Unsatisfiable, Unknown}
use Rattle.solver_scan.specs.SolverText.{blank, digit, digit19, word, unstated, satisfiable}

-- ---- what changes in a state

abbrev pub scan : Place → ℕ → Verdict → ℕ → Bool → Bool → ℕ → Bool → ℕ → Scan
scan p a v n l c f g w = record { place = p; at = a; verdict = v; letters = n; listed = l; closed = c; from = f; minus = g; value = w }

-- the byte may stand there, and the next place is p
abbrev pub to : Scan → Place → Scan
to s p = scan p (s.at + 1) s.verdict s.letters s.listed s.closed s.from s.minus s.value

-- it is the letter n of the verdict v
abbrev pub spell : Scan → Verdict → ℕ → Scan
spell s v n = scan Word (s.at + 1) v n s.listed s.closed s.from s.minus s.value

-- it is the v of a v line
abbrev pub list : Scan → Scan
list s = scan AfterToken (s.at + 1) s.verdict s.letters true s.closed s.from s.minus s.value

-- it is the 0
abbrev pub close : Scan → Scan
close s = scan AfterToken (s.at + 1) s.verdict s.letters s.listed true s.from s.minus s.value

-- it is the first byte of a literal
abbrev pub begin : Scan → Place → Bool → ℕ → Scan
begin s p g w = scan p (s.at + 1) s.verdict s.letters s.listed s.closed s.at g w

-- it is a digit of a literal, which has the number w now
abbrev pub count : Scan → ℕ → Scan
count s w = scan Digits (s.at + 1) s.verdict s.letters s.listed s.closed s.from s.minus w

-- 9, at this byte
abbrev pub bad : Scan → Scan
bad s = scan BadForm s.at s.verdict s.letters s.listed s.closed s.from s.minus s.value

-- the text has ended, and nothing speaks against it
abbrev pub done : Scan → Scan
done s = scan Ended s.at s.verdict s.letters s.listed s.closed s.from s.minus s.value

-- ---- a byte, by the place where it stands

abbrev pub start_byte : Scan → ℕ → Scan
start_byte s b =
    cond (eqb b (code "c")) (to s Comment)
    (cond (eqb b (code "s")) (cond (unstated s.verdict) (to s AfterS) (bad s))
    (cond (eqb b (code "v")) (list s) (bad s)))

unfoldable pub at_start : Scan → ℕ → Scan
at_start s b = cond (eqb b (code "\n")) (to s Start) (start_byte s b)

unfoldable pub in_comment : Scan → ℕ → Scan
in_comment s b = cond (eqb b (code "\n")) (to s Start) (cond (ltb b 256) (to s Comment) (bad s))

unfoldable pub afterS : Scan → ℕ → Scan
afterS s b = cond (blank b) (to s BeforeWord) (bad s)

abbrev pub first_letter : Scan → ℕ → Scan
first_letter s b = cond (eqb b (code "S")) (spell s Satisfiable 1) (cond (eqb b (code "U")) (spell s Unsatisfiable 1) (bad s))

unfoldable pub before_word : Scan → ℕ → Scan
before_word s b = cond (blank b) (to s BeforeWord) (first_letter s b)

-- all letters of the verdict were read
unfoldable pub spelt : Verdict → ℕ → Bool
spelt v n = leb (length (word v)) n

-- b is the next letter of a word of which n were read
abbrev pub follows : List ℕ → ℕ → ℕ → Bool
follows w n b = ltb n (length w) && eqb b (get_or w n 0)

abbrev pub unsatisfiable : Verdict → Bool
unsatisfiable Unstated = false
unsatisfiable Satisfiable = false
unsatisfiable Unsatisfiable = true
unsatisfiable Unknown = false

-- UN goes on as UNSATISFIABLE, and with a K as UNKNOWN
unfoldable pub turns : Verdict → ℕ → ℕ → Bool
turns v n b = eqb n 2 && (eqb b (code "K") && unsatisfiable v)

unfoldable pub next_letter : Scan → ℕ → Scan
next_letter s b =
    cond (follows (word s.verdict) s.letters b) (spell s s.verdict (s.letters + 1))
    (cond (turns s.verdict s.letters b) (spell s Unknown 3) (bad s))

unfoldable pub word_done : Scan → Place → Scan
word_done s p = cond (spelt s.verdict s.letters) (to s p) (bad s)

unfoldable pub in_word : Scan → ℕ → Scan
in_word s b = cond (blank b) (word_done s AfterWord) (cond (eqb b (code "\n")) (word_done s Start) (next_letter s b))

unfoldable pub after_word : Scan → ℕ → Scan
after_word s b = cond (blank b) (to s AfterWord) (cond (eqb b (code "\n")) (to s Start) (bad s))

unfoldable pub after_token : Scan → ℕ → Scan
after_token s b = cond (blank b) (to s BeforeToken) (cond (eqb b (code "\n")) (to s Start) (bad s))

unfoldable pub first_byte : Scan → ℕ → Scan
first_byte s b =
    cond (eqb b (code "-")) (begin s AfterMinus true 0)
    (cond (eqb b (code "0")) (close s) (cond (digit19 b) (begin s Digits false (b - code "0")) (bad s)))

-- nothing stands after the 0
unfoldable pub token_byte : Scan → ℕ → Scan
token_byte s b = cond s.closed (bad s) (first_byte s b)

unfoldable pub before_token : Scan → ℕ → Scan
before_token s b = cond (blank b) (to s BeforeToken) (cond (eqb b (code "\n")) (to s Start) (token_byte s b))

unfoldable pub past_minus : Scan → ℕ → Scan
past_minus s b = cond (digit19 b) (count s (b - code "0")) (bad s)

-- numbers past 200,000,000 are past V and are not told apart
unfoldable pub grow : ℕ → ℕ → ℕ
grow w d = cond (leb w 200_000_000) (w * 10 + d) w

abbrev pub digit_byte : Scan → ℕ → Scan
digit_byte s b = cond (digit b) (count s (grow s.value (b - code "0"))) (bad s)

-- where the scan goes on, if nothing speaks against the literal that a blank or a line feed ends
unfoldable pub in_digits : Scan → ℕ → Scan
in_digits s b = cond (blank b) (to s BeforeToken) (cond (eqb b (code "\n")) (to s Start) (digit_byte s b))

unfoldable pub place_step : Place → Scan → ℕ → Scan
place_step Start s b = at_start s b
place_step Comment s b = in_comment s b
place_step AfterS s b = afterS s b
place_step BeforeWord s b = before_word s b
place_step Word s b = in_word s b
place_step AfterWord s b = after_word s b
place_step AfterToken s b = after_token s b
place_step BeforeToken s b = before_token s b
place_step AfterMinus s b = past_minus s b
place_step Digits s b = in_digits s b
place_step Ended s b = bad s
place_step BadForm s b = s
place_step BadLiteral s b = s

-- "refused solver text stays refused"
unfoldable pub refused_at : Place → Bool
refused_at Start = false
refused_at Comment = false
refused_at AfterS = false
refused_at BeforeWord = false
refused_at Word = false
refused_at AfterWord = false
refused_at AfterToken = false
refused_at BeforeToken = false
refused_at AfterMinus = false
refused_at Digits = false
refused_at Ended = false
refused_at BadForm = true
refused_at BadLiteral = true

-- "Byte 4,294,967,295, counted from 0, is refused with 9"
unfoldable pub at_limit : Place → Scan → Scan
at_limit p s = cond (refused_at p) s (bad s)

unfoldable pub scan_byte : Scan → ℕ → Scan
scan_byte s b = cond (eqb s.at 4_294_967_295) (at_limit s.place s) (place_step s.place s b)

-- ---- the end of the text

unfoldable pub judge : Scan → Scan
judge s =
    cond (unstated s.verdict) (bad s)
    (cond (satisfiable s.verdict) (cond s.closed (done s) (bad s)) (cond s.listed (bad s) (done s)))

unfoldable pub judge_word : Scan → Scan
judge_word s = cond (spelt s.verdict s.letters) (judge s) (bad s)

unfoldable pub scan_end_at : Place → Scan → Scan
scan_end_at Start s = judge s
scan_end_at Comment s = judge s
scan_end_at AfterS s = bad s
scan_end_at BeforeWord s = bad s
scan_end_at Word s = judge_word s
scan_end_at AfterWord s = judge s
scan_end_at AfterToken s = judge s
scan_end_at BeforeToken s = judge s
scan_end_at AfterMinus s = bad s
scan_end_at Digits s = judge s
scan_end_at Ended s = s
scan_end_at BadForm s = s
scan_end_at BadLiteral s = s

abbrev pub scan_end : Scan → Scan
scan_end s = scan_end_at s.place s
