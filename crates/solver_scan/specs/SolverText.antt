-- DEFINITION: what a solver text gives, or where its first fault lies: document 01's section "Solver text", and rows 9 and 10 of
-- "What is turned down". `last` is V, the last variable; the step and mark variables are those up to `kept`.
use Rattle.std.specs.Prelude.{◌≡◌, Bool, true, false, cond, ◌&&◌, ◌||◌, List, [], ◌∷◌, ◌++◌, ℕ, ◌+◌, ◌-◌, ◌*◌, ◌<◌, ltb, leb, eqb, ℤ, pos, neg_ℤ, nat_abs}
use Rattle.std.proofs.Math.Option.{Option, none, some}
use Prim.Native.Char.{code}
use Rattle.refusals.specs.declared.Code.{Code}
use Rattle.refusals.specs.declared.Refusal.{Refusal}
use Rattle.refusals.specs.declared.Refusal.TheVariants.{SolverForm, Literal}
use Rattle.refusals.specs.Refused.{code_of}
use Rattle.automaton.specs.Bytes.{bytes}
use Rattle.solver_scan.specs.declared.Verdict.{Verdict}
use Rattle.solver_scan.specs.declared.Verdict.TheVariants.{Unstated, Satisfiable, Unsatisfiable, Unknown}

-- ---- what a text gives

-- the verdict, whether there was a v line, whether its 0 came, and the literals named, the last one first
pub record Seen : Type 0 where
  pub verdict : Verdict
  pub listed : Bool
  pub closed : Bool
  pub literals : List ℤ

-- before anything is read
abbrev pub unread : Seen
unread = record { verdict = Unstated; listed = false; closed = false; literals = [] }

pub data Outcome : Type 0 where
  gives : Seen → Outcome
  refused : Refusal → Outcome

-- "Returned (number, a, b)": what a text is turned down with, or none
abbrev pub fault : Outcome → Option Code
fault (gives s) = none
fault (refused x) = some (code_of x)

-- 9 and 10, with their offsets
abbrev pub form : ℕ → Outcome
form o = refused (SolverForm o)

abbrev pub unfit : ℕ → Outcome
unfit o = refused (Literal o)

-- the first fault decides
abbrev pub followed : Outcome → (Seen → Outcome) → Outcome
followed (gives s) f = f s
followed (refused x) f = refused x

-- ---- bytes, and where they stand

abbrev pub Bytes : List ℕ → Type 0
Bytes [] = Unit {0}
Bytes (b ∷ u) = (b < 256) × Bytes u

abbrev pub lf : ℕ → Bool
lf b = eqb b (code "\n")

-- "Blanks are spaces or tabs"
unfoldable pub blank : ℕ → Bool
blank b = eqb b (code " ") || eqb b (code "\t")

unfoldable pub digit : ℕ → Bool
digit b = leb (code "0") b && leb b (code "9")

unfoldable pub digit19 : ℕ → Bool
digit19 b = leb (code "1") b && leb b (code "9")

-- "Byte 4,294,967,295, counted from 0, is refused with 9": it is read as a number that no byte is and that no line can have
abbrev pub fenced : ℕ → List ℕ → List ℕ
fenced o [] = []
fenced o (b ∷ r) = let t = fenced (o + 1) r in cond (eqb o 4_294_967_295) (256 ∷ []) (b ∷ t)

-- what stands before the first separator, and the pieces after each
abbrev pub split : (ℕ → Bool) → List ℕ → List ℕ × List (List ℕ)
split p [] = ([], [])
split p (b ∷ r) = let c = split p r in cond (p b) ([], c.0 ∷ c.1) (b ∷ c.0, c.1)

-- the offset past the bytes u, which begin at o
abbrev pub past : ℕ → List ℕ → ℕ
past o [] = o
past o (b ∷ u) = past (o + 1) u

-- no byte may stand at o: "the first byte that its line cannot have there"
abbrev pub nothing : ℕ → List ℕ → Outcome → Outcome
nothing o [] x = x
nothing o (b ∷ u) x = form o

-- ---- `c` lines

-- "`c` lines and empty lines are skipped": every byte may stand there
abbrev pub skipped : ℕ → Seen → List ℕ → Outcome
skipped o s [] = gives s
skipped o s (b ∷ l) = let r = skipped (o + 1) s l in cond (ltb b 256) r (form o)

-- ---- `s` lines

-- "One `s` line: SATISFIABLE, UNSATISFIABLE or UNKNOWN"
abbrev pub word : Verdict → List ℕ
word Unstated = []
word Satisfiable = bytes "SATISFIABLE"
word Unsatisfiable = bytes "UNSATISFIABLE"
word Unknown = bytes "UNKNOWN"

abbrev pub unstated : Verdict → Bool
unstated Unstated = true
unstated Satisfiable = false
unstated Unsatisfiable = false
unstated Unknown = false

abbrev pub satisfiable : Verdict → Bool
satisfiable Unstated = false
satisfiable Satisfiable = true
satisfiable Unsatisfiable = false
satisfiable Unknown = false

abbrev pub with_verdict : Seen → Verdict → Seen
with_verdict s v = record { verdict = v; listed = s.listed; closed = s.closed; literals = s.literals }

-- of verdicts and what is left of their words: those that go on with the byte b
abbrev pub going : ℕ → List (Verdict × List ℕ) → List (Verdict × List ℕ)
going b [] = []
going b ((v, []) ∷ ws) = going b ws
going b ((v, x ∷ w) ∷ ws) = cond (eqb b x) ((v, w) ∷ going b ws) (going b ws)

-- the verdict of which nothing is left; f says what follows of it
abbrev pub complete : ℕ → (Verdict → Outcome) → List (Verdict × List ℕ) → Outcome
complete o f [] = form o
complete o f ((v, []) ∷ ws) = f v
complete o f ((v, x ∷ w) ∷ ws) = complete o f ws

abbrev pub unless_none : List (Verdict × List ℕ) → Outcome → Outcome → Outcome
unless_none [] x y = y
unless_none (w ∷ ws) x y = x

-- a token of an s line from o on: its bytes must go on with one of the verdicts, to its end
abbrev pub spelled : ℕ → (Verdict → Outcome) → List (Verdict × List ℕ) → List ℕ → Outcome
spelled o f ws [] = complete o f ws
spelled o f ws (b ∷ u) = let r = spelled (o + 1) f (going b ws) u in unless_none (going b ws) r (form o)

abbrev pub verdicts : List (Verdict × List ℕ)
verdicts = (Satisfiable, word Satisfiable) ∷ (Unsatisfiable, word Unsatisfiable) ∷ (Unknown, word Unknown) ∷ []

-- "Blanks .. may end an `s` or `v` line"
abbrev pub blanks : ℕ → Seen → List (List ℕ) → Outcome
blanks e s [] = gives s
blanks e s (k ∷ ks) = nothing (e + 1) k (blanks (e + 1) s ks)

-- the pieces after a blank at e: more blanks, the verdict, blanks
abbrev pub verdict_line : ℕ → Seen → List (List ℕ) → Outcome
verdict_line e s [] = form e
verdict_line e s ([] ∷ ks) = verdict_line (e + 1) s ks
verdict_line e s ((b ∷ u) ∷ ks) =
    followed (spelled (e + 1) (λ v. gives (with_verdict s v)) verdicts (b ∷ u)) (λ r. blanks (past (e + 1) (b ∷ u)) r ks)

-- ---- `v` lines

abbrev pub with_line : Seen → Seen
with_line s = record { verdict = s.verdict; listed = true; closed = s.closed; literals = s.literals }

abbrev pub with_zero : Seen → Seen
with_zero s = record { verdict = s.verdict; listed = s.listed; closed = true; literals = s.literals }

abbrev pub with_literal : Seen → ℤ → Seen
with_literal s l = record { verdict = s.verdict; listed = s.listed; closed = s.closed; literals = l ∷ s.literals }

-- "A literal is the variable, or its negative"
abbrev pub literal_of : Bool → ℕ → ℤ
literal_of false v = pos v
literal_of true v = neg_ℤ (pos v)

-- the variable is that of a literal in the list
abbrev pub mentioned : ℕ → List ℤ → Bool
mentioned v [] = false
mentioned v (l ∷ ls) = eqb (nat_abs l) v || mentioned v ls

module _ (last kept : ℕ) where
  -- "literal past V, or step or mark variable given twice, judged once the literal has ended, at its first byte", o
  unfoldable pub settled : ℕ → ℤ → Seen → Outcome
  settled o l s =
      cond (ltb last (nat_abs l) || (leb (nat_abs l) kept && mentioned (nat_abs l) s.literals)) (unfit o) (gives (with_literal s l))

  -- the digits at o and after, of a literal that began at `from` and has the number v so far
  abbrev pub digits : ℕ → ℕ → Bool → ℕ → Seen → List ℕ → Outcome
  digits o from minus v s [] = settled from (literal_of minus v) s
  digits o from minus v s (b ∷ u) = let r = digits (o + 1) from minus (v * 10 + (b - code "0")) s u in cond (digit b) r (form o)

  -- after the minus: "no leading zero, no -0"
  abbrev pub number : ℕ → ℕ → Bool → Seen → List ℕ → Outcome
  number o from minus s [] = form o
  number o from minus s (b ∷ u) = cond (digit19 b) (digits (o + 1) from minus (b - code "0") s u) (form o)

  -- what stands at o between two blanks: nothing, a literal, or the 0, and after "the last of all being 0" nothing
  abbrev pub token : ℕ → Seen → List ℕ → Outcome
  token o s [] = gives s
  token o s (b ∷ u) =
      cond s.closed (form o)
      (cond (eqb b (code "-")) (number (o + 1) o true s u)
      (cond (eqb b (code "0")) (nothing (o + 1) u (gives (with_zero s))) (number o o false s (b ∷ u))))

  -- the pieces after a blank at e
  abbrev pub tokens : ℕ → Seen → List (List ℕ) → Outcome
  tokens e s [] = gives s
  tokens e s (k ∷ ks) = followed (token (e + 1) s k) (λ r. tokens (past (e + 1) k) r ks)

  -- ---- lines

  -- a line that begins at o; "a second `s` line .. at its first byte"
  abbrev pub line : ℕ → Seen → List ℕ → Outcome
  line o s [] = gives s
  line o s (b ∷ l) =
      let c = split blank l in
      cond (eqb b (code "c")) (skipped (o + 1) s l)
      (cond (eqb b (code "s")) (cond (unstated s.verdict) (nothing (o + 1) c.0 (verdict_line (o + 1) s c.1)) (form o))
      (cond (eqb b (code "v")) (nothing (o + 1) c.0 (tokens (o + 1) (with_line s) c.1)) (form o)))

  -- "at the end of the text (offset: length) no `s` line, SATISFIABLE without 0, or another verdict with a `v` line"
  unfoldable pub judged : ℕ → Seen → Outcome
  judged o s =
      cond (unstated s.verdict) (form o)
      (cond (satisfiable s.verdict) (cond s.closed (gives s) (form o)) (cond s.listed (form o) (gives s)))

  -- the lines after one that ended at e
  abbrev pub lines : ℕ → Seen → List (List ℕ) → Outcome
  lines e s [] = judged e s
  lines e s (k ∷ ks) = followed (line (e + 1) s k) (λ r. lines (past (e + 1) k) r ks)

  -- "Lines end in LF (optional on the last)"
  unfoldable pub outcome : List ℕ → Outcome
  outcome text = let c = split lf (fenced 0 text) in followed (line 0 unread c.0) (λ r. lines (past 0 c.0) r c.1)

  -- every text that begins with these bytes is turned down with x
  abbrev pub AllRefused : List ℕ → Refusal → Type 0
  AllRefused text x = (u : List ℕ) → Bytes u → outcome (text ++ u) ≡ refused x
