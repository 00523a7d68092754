-- DEFINITION of what the answer of `marks` says (`MarksAnswer`): the set of marks that the text has, or the refusal.
use Rattle.std.specs.Prelude.{◌≡◌, List, ℕ, ◌≤◌, ◌<◌, length, Result, Ok, Err}
use Rattle.refusals.specs.declared.Refusal.{Refusal}
use Rattle.refusals.specs.declared.Refusal.TheVariants.{Outside}
use Rattle.hoa_text.specs.Grammar.{gives, refuses, Parsed}
use Rattle.hoa_text.specs.Body.{marked}
use Rattle.hoa_text.specs.Tokens.{left}
use Rattle.hoa_marks.specs.declared.MarksRead.{MarksRead}

-- from i on, x gives the set m, and the text behind it begins at e
pub record Marked (s : List ℕ) (i : ℕ) (x : Parsed ℕ) (m e : ℕ) : Type 0 where
  pub is : x ≡ gives (m, left s e)
  pub from : i ≤ e
  pub to : i ≤ length s → e ≤ length s

-- what x is by the answer
abbrev pub MarksMean : List ℕ → ℕ → Parsed ℕ → Result MarksRead Refusal → Type 0
MarksMean s i x (Ok r) = Marked s i x r.marks r.end
MarksMean s i x (Err r) = x ≡ refuses r

-- the marks that may stand at i, with n sets: "0 to 4"
pub record MarksAnswer (s : List ℕ) (i n : ℕ) (r : Result MarksRead Refusal) : Type 0 where
  pub is : n ≤ 4 → MarksMean s i (marked n (left s i)) r
  pub outside : 4 < n → r ≡ Err Outside
