-- "a and b both for ever": its files for n and m of (1,1), (2,1) and (1,2).
use Rattle.std.specs.Prelude.{◌≡◌, refl, Bool, true, false, ◌||◌, ℕ, ◌<◌}
use Rattle.std.proofs.Common.{sym, ap, ◌∙◌, true≢false, arith}
use Rattle.std.proofs.Math.Bool.{xor}
use mathlib.Core.List.{[], ◌∷◌, ◌++◌, cons≢nil}
use Rattle.std.proofs.Math.Arith.{lt-one}
use Rattle.meaning.specs.BitSet.{has, set_of}
use Rattle.meaning.specs.ClosedLoop.{CyclesAgree}
use Rattle.meaning.proofs.CycleLemma.{agree→cycles}
use Rattle.automaton.specs.View.{view}
use Rattle.automaton.specs.ViewLaws.{view_formed}
use Rattle.encoding.specs.Clauses.{each, only, not_marks, totality, initial, successor, extension, closure, exactly_one, group₁, group₂, group₃, group₄, file as task-file, decoded}
use Rattle.encoding.proofs.NamedTheorem.{named_encodes}
use Rattle.automaton.specs.Bytes.{bytes}
use Rattle.clause_sizes.specs.Targets.{every, named, task, numbers, file}
use Rattle.hoa_text.specs.Grammar.{gives}
use Rattle.hoa_text.specs.Formulas.{deepest}
use Rattle.hoa_text.specs.Header.{item_read}
use Rattle.hoa_text.specs.Body.{body_read}
use Rattle.hoa_text.specs.Reading.{read}
use Rattle.hoa_text.specs.Accepted.{accepted_valid}
use Rattle.hoa_text.specs.Examples.{both_for_ever}
use Rattle.decks.specs.Words.{Counts, Satisfiable}
use Rattle.decks.proofs.TestedLaws.{tested_satisfies}

pub both_read : read
    (bytes "HOA: v1 States: 1 Start: 0 AP: 2 \"a\" \"b\" Acceptance: 2 Inf(0)&Inf(1) "
    ++ bytes "--BODY-- State: 0 [!0&!1] 0 [0&!1] 0 {0} [!0&1] 0 {1} [0&1] 0 {0 1} --END--")
    ≡ gives both_for_ever
unfolding read item_read body_read deepest set_of
both_read = refl

pub counts_one_one : Counts both_for_ever (every 1 1) 16 103
unfolding each only set_of not_marks totality initial successor extension closure exactly_one group₁ group₂ group₃ group₄ task-file xor
counts_one_one = record { last_variable_lem = refl; count = refl }

pub counts_two_one : Counts both_for_ever (every 2 1) 64 657
unfolding each only set_of not_marks totality initial successor extension closure exactly_one group₁ group₂ group₃ group₄ task-file xor
counts_two_one = record { last_variable_lem = refl; count = refl }

pub counts_one_two : Counts both_for_ever (every 1 2) 28 391
unfolding each only set_of not_marks totality initial successor extension closure exactly_one group₁ group₂ group₃ group₄ task-file xor
counts_one_two = record { last_variable_lem = refl; count = refl }

-- ---- some: the variables that are true, as one number whose binary digit k is that of variable k

-- two states: one waits for a, the other for b
pub some_two_one : Satisfiable both_for_ever (every 2 1)
unfolding each only set_of not_marks totality initial successor extension closure exactly_one group₁ group₂ group₃ group₄ task-file xor
some_two_one = let ν = has 18987480639357367474 in (ν, tested_satisfies ν (file both_for_ever (every 2 1)) refl)

-- two sets: the reference itself
pub some_one_two : Satisfiable both_for_ever (every 1 2)
unfolding each only set_of not_marks totality initial successor extension closure exactly_one group₁ group₂ group₃ group₄ task-file xor
some_one_two = let ν = has 277101726 in (ν, tested_satisfies ν (file both_for_ever (every 1 2)) refl)

-- ---- none: with one state and one set the table would have to accept 1 2 1 2 .. without accepting 1 1 .. or 2 2 ..

-- Inf of one set, met or not
abbrev inf : Bool → Bool
inf met = has 2 (set_of 1 (λ i. met))

no_mark : (a b : Bool) → inf (a || false) ≡ false → inf (b || false) ≡ false → inf (a || (b || false)) ≡ true → ⊥
unfolding set_of
no_mark true b e f g = true≢false e
no_mark false true e f g = true≢false f
no_mark false false e f g = true≢false (sym g)

pub none_one_one : ¬ Satisfiable both_for_ever (every 1 1)
unfolding CyclesAgree set_of
none_one_one (ν, s) =
    let C = decoded (task both_for_ever (every 1 1)) (numbers both_for_ever (every 1 1)) ν in
    let F = view_formed (accepted_valid _ both_read) in
    let (e, k) = (named_encodes (view both_for_ever) (named (every 1 1)) F (omega arith)).sound ν s in
    let c = agree→cycles (record { formed_A = e.candidate.formed; formed_B = F; same_letters = refl }) e.agrees in
    let to-0 : (l : ℕ) → l < 4 → C.step 0 l ≡ 0 = λ l h. lt-one (e.candidate.formed.step_lt 0 l (omega arith) h) in
    let h₁ : C.step 0 1 ≡ 0 = to-0 1 (omega arith) in
    let h₂ : C.step 0 2 ≡ 0 = to-0 2 (omega arith) in
    no_mark (C.marks 0 1 0) (C.marks 0 2 0)
    (c [] (1 ∷ []) tt (omega arith) cons≢nil h₁ refl)
    (c [] (2 ∷ []) tt (omega arith) cons≢nil h₂ refl)
    (ap (λ q. inf (C.marks 0 1 0 || (C.marks q 2 0 || false))) (sym h₁) ∙ c [] (1 ∷ 2 ∷ []) tt (omega arith) cons≢nil (ap (λ q. C.step q 2) h₁ ∙ h₂) refl)
