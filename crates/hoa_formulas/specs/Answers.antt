-- DEFINITION of what the answer of a function that reads part of a formula says (`Answers`): the letters, or the sets of marks, that satisfy it; or the refusal.
use Rattle.std.specs.Prelude.{◌≡◌, Bool, List, ℕ, ◌≤◌, ◌<◌, length, Result, Ok, Err}
use Rattle.meaning.specs.BitSet.{has}
use Rattle.refusals.specs.declared.Refusal.{Refusal}
use Rattle.hoa_text.specs.Tokens.{left}
use Rattle.hoa_text.specs.Grammar.{gives, refuses, Parsed}
use Rattle.hoa_text.specs.Formulas.{Formula, holds}
use Rattle.hoa_formulas.specs.declared.FormulaRead.{FormulaRead}

-- the set of the letters, or of the sets of marks, of which f says yes; there are at most 16
abbrev pub Members : ℕ → (ℕ → Bool) → Type 0
Members set f = (l : ℕ) → l < 16 → has set l ≡ f l

-- the set of those that satisfy a formula
abbrev pub Satisfy : ℕ → Formula → Type 0
Satisfy set f = Members set (holds f)

-- from i on, x gives a formula of that set, and the text behind it begins at e
pub record Read (s : List ℕ) (i : ℕ) (x : Parsed Formula) (set e : ℕ) : Type 0 where
  pub formula : Formula
  pub is : x ≡ gives (formula, left s e)
  pub members : Satisfy set formula
  pub from : i < e
  pub to : e ≤ length s

abbrev pub Answers : List ℕ → ℕ → Parsed Formula → Result FormulaRead Refusal → Type 0
Answers s i x (Ok r) = Read s i x r.members r.end
Answers s i x (Err r) = x ≡ refuses r
