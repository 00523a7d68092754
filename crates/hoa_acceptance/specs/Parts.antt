-- Contract of the function that reads the formula behind the number of sets.
use Rattle.std.specs.Prelude.{List, ℕ, Result}
use Rattle.refusals.specs.declared.Refusal.{Refusal}
use Rattle.hoa_text.specs.Tokens.{left}
use Rattle.hoa_text.specs.Grammar.{then}
use Rattle.hoa_text.specs.Formulas.{acceptance_formula}
use Rattle.hoa_text.specs.Header.{Items, sets_read}
use Rattle.hoa_acceptance.specs.declared.SetsRead.{SetsRead}
use Rattle.hoa_acceptance.specs.Answers.{SetsAnswered}

-- from i on, for m sets, whatever the items before
abbrev pub ReadsCondition : List ℕ → ℕ → ℕ → Result SetsRead Refusal → Type 0
ReadsCondition s i m r = (h : Items) → SetsAnswered s i h (then (acceptance_formula m (left s i)) (sets_read h m)) r
