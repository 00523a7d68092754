-- What the answers of the functions that read parts of a formula say.
use Rattle.std.specs.Prelude.{List, ℕ, Result, Ok}
use Rattle.std.proofs.Math.Seq.{slice}
use Rattle.refusals.specs.declared.Refusal.{Refusal}
use Rattle.refusals.specs.declared.Refusal.TheVariants.{Form}
use Rattle.hoa_text.specs.Tokens.{word, stands, left}
use Rattle.hoa_text.specs.Grammar.{at, refuses, Parsed, then}
use Rattle.hoa_text.specs.Formulas.{Formula, propositions, sets, negated, closed, declared, named, constant}
use Rattle.hoa_text.specs.Formulas as Formulas
use Rattle.hoa_tokens.specs.declared.Token.TheVariants.{Number}
use Rattle.hoa_tokens.specs.Answers.{Reads}
use Rattle.hoa_formulas.specs.declared.Atoms.{Atoms}
use Rattle.hoa_formulas.specs.declared.Atoms.TheVariants.{Propositions, Sets}
use Rattle.hoa_formulas.specs.declared.FormulaRead.{FormulaRead}
use Rattle.hoa_formulas.specs.Answers.{Answers}

abbrev pub atoms_of : Atoms → Formulas.Atoms
atoms_of (Propositions k) = propositions k
atoms_of (Sets m) = sets m

-- whatever was read, denied
abbrev pub Denies : FormulaRead → FormulaRead → Type 0
Denies read r = (s : List ℕ) (i : ℕ) (x : Parsed Formula) → Answers s i x (Ok read) → Answers s i (then x negated) (Ok r)

-- whatever was read, in brackets
abbrev pub Closes : List ℕ → FormulaRead → Result FormulaRead Refusal → Type 0
Closes s read r = (i : ℕ) (x : Parsed Formula) → Answers s i x (Ok read) → Answers s i (then x closed) r

-- `t`, `f`, or nothing of a formula
abbrev pub ConstantAt : List ℕ → ℕ → Result FormulaRead Refusal → Type 0
ConstantAt s i r = Answers s i (constant (refuses (Form (at (left s i)))) (left s i)) r

-- the word from i up to e as one
abbrev pub ConstantWord : List ℕ → ℕ → ℕ → Result FormulaRead Refusal → Type 0
ConstantWord s i e r = Answers s i (constant (refuses (Form i)) (stands i (word (slice i e s)) (left s e))) r

-- and as that of one of m sets
abbrev pub SetWord : List ℕ → ℕ → ℕ → ℕ → Result FormulaRead Refusal → Type 0
SetWord s i e m r = Answers s i (named (sets m) (stands i (word (slice i e s)) (left s e))) r

-- the number v from o up to e, wherever it is read, as one of n
abbrev pub Given : ℕ → ℕ → ℕ → ℕ → Result FormulaRead Refusal → Type 0
Given o v e n r = (s : List ℕ) (i : ℕ) → Reads s i (Number o v e) → Answers s i (declared n (left s i)) r
