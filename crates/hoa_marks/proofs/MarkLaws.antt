-- Laws of marks: one after another, up to the `}`.
use mathlib.Core.Path.{◌≡◌, ap, ◌∙◌}
use mathlib.Core.List.{List}
use mathlib.Core.Option.{none}
use Prim.Native.Nat.{ℕ, ◌≤◌}
use native.Mathlib.Omega.{arith}
use lib.ListN.{length}
use Rattle.std.specs.Prelude.{Result, Ok, Err}
use Rattle.refusals.specs.declared.Refusal.{Refusal}
use Rattle.hoa_text.specs.Tokens.{Stream, left}
use Rattle.hoa_text.specs.Grammar.{number_of, is_sign, next, rest, at, gives, refuses, Parsed, peek, then}
use Rattle.hoa_text.specs.Grammar as Grammar
use Rattle.hoa_text.specs.Body.{marks, marked}
use Rattle.hoa_marks.specs.declared.MarksRead.{MarksRead}
use Rattle.hoa_marks.specs.Answers.{MarksMean, MarksAnswer}
use Rattle.hoa_marks.specs.Closing.{ClosedAnswer}

-- the marks up to i are the set m, of n sets
pub record Listed (s : List ℕ) (b n m i : ℕ) : Type 0 where
  pub is : marks n 0 (left s b) ≡ marks n m (left s i)
  pub from : b ≤ i
  pub to : b ≤ length s → i ≤ length s

module _ (s : List ℕ) (b n m i : ℕ) (j : Listed s b n m i) where
  pub marks_closed : (r : Result MarksRead Refusal) → ClosedAnswer s i m r → peek number_of (left s i) ≡ none → MarksMean s b (marks n 0 (left s b)) r
  marks_closed (Ok x) c p = let y = c n p in record { is = j.is ∙ y.is; from = omega (arith, j.from, y.from); to = λ l. y.to (j.to l) }
  marks_closed (Err r) c p = j.is ∙ c n p

-- ---- what is made of them

module _ {B : Type 0} (s : List ℕ) (i n sets : ℕ) (few : n ≤ 4) (count : sets ≡ n) (k : ℕ → Stream → Grammar.Result B) where
  with_marks_lem : (x : Parsed ℕ) → marked n (left s i) ≡ x → then (marked sets (left s i)) k ≡ then x k
  with_marks_lem x e = ap (λ n. then (marked n (left s i)) k) count ∙ ap (λ y. then y k) e

  pub then_refused : (r : Refusal) → MarksAnswer s i n (Err r) → then (marked sets (left s i)) k ≡ refuses r
  then_refused r x = with_marks_lem (refuses r) (x.is few)

  pub then_read : (r : MarksRead) → MarksAnswer s i n (Ok r) → then (marked sets (left s i)) k ≡ k r.marks (left s r.end)
  then_read r x = with_marks_lem (gives (r.marks, left s r.end)) (x.is few).is
