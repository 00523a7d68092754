-- The clauses that are left from a position on. Each batch of lines leaves fewer, so that the batches end.
use Rattle.std.specs.Prelude.{List, ℕ, zero, suc, ◌+◌, ◌*◌, ◌-◌, ◌≤◌, ◌<◌, ℤ, length, take, Some}
use Rattle.std.proofs.Common.{ap, arith, length-drop, length-append}
use Rattle.automaton.specs.declared.Automaton.{Automaton}
use Rattle.automaton.specs.Value.{Valid}
use Rattle.encoding.specs.Clauses.{each}
use Rattle.encoding.specs.Positions.{positions, at_position}
use Rattle.encoding.specs.ByPosition.{at_most_one}
use Rattle.clause_sizes.specs.declared.Target.{Target}
use Rattle.clause_sizes.specs.Targets.{Proper, task, numbers}
use Rattle.clause_list.specs.Next.{clauses_from}
use Rattle.clause_step.specs.Step.{last_position}
use Rattle.clause_step.specs.Range.{positions_le}
use Rattle.clause_words.specs.Text.{lines_text}
use Rattle.clause_text.specs.Answers.{BatchFound}

abbrev from : Automaton → Target → ℕ → List (List ℤ)
from a τ x = clauses_from (task a τ) (numbers a τ) x

abbrev pub left : Automaton → Target → ℕ → ℕ
left a τ x = length (from a τ x)

-- a text that is not empty is that of one line at least
some_lines : (count : ℕ) (cs : List (List ℤ)) → 1 ≤ length (lines_text (take count cs)) → 1 ≤ count
some_lines zero cs h = h
some_lines (suc count) cs h = omega arith

pub fewer_left : (a : Automaton) (τ : Target) (x : ℕ) (d e : List ℕ) (k y : ℕ) → BatchFound a τ x d e (Some k) y → left a τ y < left a τ x
fewer_left a τ x d e k y (f, h) =
    let some : 1 ≤ f.lines.count = some_lines f.lines.count (from a τ x) (omega (arith, f.lines.text.next)) in
    omega (arith, some, f.lines.there, ap length f.lines.next, length-drop f.lines.count (from a τ x))

-- no file has more clauses than positions
each_le : (k : ℕ) (f : ℕ → List (List ℤ)) → ((i : ℕ) → length (f i) ≤ 1) → length (each k f) ≤ k
unfolding each
each_le zero f h = omega arith
each_le (suc k) f h = omega (arith, length-append (each k f) (f k), h k, each_le k f h)

pub left_le : {a : Automaton} {τ : Target} → Valid a → Proper τ → (x : ℕ) → left a τ x ≤ last_position
unfolding clauses_from
left_le {a} {τ} v d x =
    let T = task a τ in
    let num = numbers a τ in
    omega (arith, each_le (positions T num - x) (λ i. at_position T num (x + i)) (λ i. at_most_one T num (x + i)), positions_le v d)

-- at 262,144 bytes for each, they have less than 2 ^ 64, those of a header before them included
pub start_le : {a : Automaton} {τ : Target} {k : ℕ} → Valid a → Proper τ → k ≤ 80 → (x : ℕ) → k + 262144 * left a τ x ≤ 80 + 262144 * 8657059969
start_le v d h x = omega (arith, h, left_le v d x)
