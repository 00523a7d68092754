-- DEFINITION: what a reader makes of each byte and of the end of the text, from every state: it scans the lines (`Scanning` in crate `solver_scan`) and
-- judges each literal that ends (`Giving` in crate `solver_literals`). On whole texts this is the definition in `SolverText` (law `agrees` in crate
-- `solver_agreement`), and before the end it turns down just what that definition turns down however the text goes on (law `refused_exactly` there).
use Rattle.std.specs.Prelude.{Bool, true, false, cond, ◌&&◌, List, [], ◌∷◌, ℕ, replicate, Result, Ok, Err}
use Rattle.refusals.specs.declared.Refusal.{Refusal}
use Rattle.refusals.specs.declared.Refusal.TheVariants.{SolverForm, Literal}
use Rattle.solver_scan.specs.declared.Scan.{Scan}
use Rattle.solver_scan.specs.declared.Place.{Place}
use Rattle.solver_scan.specs.declared.Place.TheVariants.{Start, Comment, AfterS, BeforeWord, Word, AfterWord, AfterToken, BeforeToken, AfterMinus, Digits, Ended, BadForm, BadLiteral}
use Rattle.solver_scan.specs.declared.Verdict.TheVariants.{Unstated}
use Rattle.solver_scan.specs.SolverText.{literal_of}
use Rattle.solver_scan.specs.Scanning.{scan, scan_byte, scan_end_at}
use Rattle.solver_literals.specs.Giving.{fits, given}
use Rattle.solver_text.specs.declared.Reader.{Reader}
use Rattle.solver_text.specs.declared.Reply.{Reply}

abbrev pub at_rest : Scan → List ℕ → Reader
at_rest s t = record { scan = s; named = t }

abbrev pub fresh : Reader
fresh = at_rest (scan Start 0 Unstated 0 false false 0 false 0) (replicate 5121 0)

-- ---- the end of a literal

-- 10, at the first byte of the literal
abbrev pub unfitting : Scan → Scan
unfitting s = scan BadLiteral s.from s.verdict s.letters s.listed s.closed s.from s.minus s.value

-- if nothing speaks against the literal, the scan goes on as `next`
unfoldable pub ending : ℕ → ℕ → Scan → Scan → List ℕ → Reader
ending last kept s next t =
    let l = literal_of s.minus s.value in
    at_rest (cond (fits last kept l t) next (unfitting s)) (given last kept l t)

unfoldable pub in_literal : Place → Bool
in_literal Start = false
in_literal Comment = false
in_literal AfterS = false
in_literal BeforeWord = false
in_literal Word = false
in_literal AfterWord = false
in_literal AfterToken = false
in_literal BeforeToken = false
in_literal AfterMinus = false
in_literal Digits = true
in_literal Ended = false
in_literal BadForm = false
in_literal BadLiteral = false

-- a blank or a line feed brings the scan of a `v` line there
unfoldable pub separated : Place → Bool
separated Start = true
separated Comment = false
separated AfterS = false
separated BeforeWord = false
separated Word = false
separated AfterWord = false
separated AfterToken = false
separated BeforeToken = true
separated AfterMinus = false
separated Digits = false
separated Ended = false
separated BadForm = false
separated BadLiteral = false

-- and ends a literal
unfoldable pub ends_literal : Place → Place → Bool
ends_literal p q = in_literal p && separated q

-- ---- a byte

unfoldable pub landed : Place → ℕ → ℕ → Scan → Scan → List ℕ → Reader
landed p last kept s next t = cond (ends_literal p next.place) (ending last kept s next t) (at_rest next t)

unfoldable pub step : ℕ → ℕ → Scan → List ℕ → ℕ → Reader
step last kept s t b = landed s.place last kept s (scan_byte s b) t

-- the bytes of a text, one after another
abbrev pub run : ℕ → ℕ → Reader → List ℕ → Reader
run last kept r [] = r
run last kept r (b ∷ bs) = run last kept (step last kept r.scan r.named b) bs

-- ---- the end of the text

unfoldable pub end_at : Place → ℕ → ℕ → Scan → List ℕ → Reader
end_at p last kept s t = cond (in_literal p) (ending last kept s (scan_end_at p s) t) (at_rest (scan_end_at p s) t)

abbrev pub end : ℕ → ℕ → Reader → Reader
end last kept r = end_at r.scan.place last kept r.scan r.named

-- ---- the answer

unfoldable pub answer_at : Place → ℕ → Result (Unit {0}) Refusal
answer_at Start at = Ok tt
answer_at Comment at = Ok tt
answer_at AfterS at = Ok tt
answer_at BeforeWord at = Ok tt
answer_at Word at = Ok tt
answer_at AfterWord at = Ok tt
answer_at AfterToken at = Ok tt
answer_at BeforeToken at = Ok tt
answer_at AfterMinus at = Ok tt
answer_at Digits at = Ok tt
answer_at Ended at = Ok tt
answer_at BadForm at = Err (SolverForm at)
answer_at BadLiteral at = Err (Literal at)

abbrev pub told : Reader → Reply
told r = record { answer = answer_at r.scan.place r.scan.at; reader = r }
