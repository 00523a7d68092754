-- What the answer of the function that reads the `}` says.
use Rattle.std.specs.Prelude.{◌≡◌, List, ℕ, Result}
use Rattle.refusals.specs.declared.Refusal.{Refusal}
use Rattle.std.proofs.Math.Option.{none}
use Rattle.hoa_text.specs.Grammar.{number_of, peek}
use Rattle.hoa_text.specs.Body.{marks}
use Rattle.hoa_text.specs.Tokens.{left}
use Rattle.hoa_marks.specs.declared.MarksRead.{MarksRead}
use Rattle.hoa_marks.specs.Answers.{MarksMean}

-- behind the marks of the set m, where no further number stands
abbrev pub ClosedAnswer : List ℕ → ℕ → ℕ → Result MarksRead Refusal → Type 0
ClosedAnswer s i m r = (n : ℕ) → peek number_of (left s i) ≡ none → MarksMean s i (marks n m (left s i)) r
