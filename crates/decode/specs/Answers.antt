-- DEFINITION: what the decoder answers, and what it leaves in the two lent buffers.
use Rattle.std.specs.Prelude.{◌≡◌, Result, Ok, Err, List, ℕ, ◌≤◌, ◌<◌, eqb, length, get_or}
use Rattle.std.proofs.Math.Option as option
use Rattle.std.proofs.Math.Option.{Option, some}
use Rattle.meaning.specs.Agreement.{Agree}
use Rattle.acceptance.specs.Masks.{OwnSets}
use Rattle.automaton.specs.declared.Automaton.{Automaton}
use Rattle.refusals.specs.declared.Code.{Code}
use Rattle.refusals.specs.declared.Refusal.{Refusal}
use Rattle.refusals.specs.declared.Refusal.TheVariants.{Outside, Dimensions, SolverForm, NoStep, Differ, Short}
use Rattle.refusals.specs.Refused.{row, code_of}
use Rattle.automaton.specs.Value.{Valid}
use Rattle.automaton.specs.View.{view}
use Rattle.encoding.specs.Clauses.{Assignment}
use Rattle.clause_sizes.specs.declared.Target.{Target}
use Rattle.clause_sizes.specs.Targets.{Dimensioned, Proper, last, kept}
use Rattle.compare.specs.Compared.{Shown, prefix_room, loop_room}
use Rattle.solver_text.specs.declared.Reader.{Reader}
use Rattle.solver_text.specs.declared.Reply.{Reply}
use Rattle.solver_scan.specs.declared.Verdict.TheVariants.{Unstated, Satisfiable, Unsatisfiable, Unknown as NotKnown}
use Rattle.solver_scan.specs.SolverText.{Seen, Outcome, gives, refused}
use Rattle.solver_agreement.specs.Assignment.{asserted}
use Rattle.solver_text.specs.Machine.{told, end}
use Rattle.solver_text.specs.Calls.{InRange}
use Rattle.decode.specs.declared.Decoded.{Decoded}
use Rattle.decode.specs.declared.Decoded.TheVariants.{Table, None as NoTable, Unknown}
use Rattle.decode.specs.Table.{decoded_value, AllStep, LowestWithout}

-- ---- what the reader holds

-- the reply at the end of the text
abbrev pub whole : Automaton → Target → Reader → Reply
whole a τ r = told (end (last a τ) (kept a τ) r)

-- "An unnamed variable is false": a variable is true where it is named without a minus, which a reader keeps as 1
abbrev pub said : Reader → Assignment
said r v = eqb (get_or r.named v 0) 1

-- ---- the answers

-- "Returned (number, a, b)": what an answer returns, or none where nothing is turned down
abbrev pub returned : Result Decoded Refusal → Option Code
returned (Ok y) = option.none
returned (Err f) = some (code_of f)

-- The two buffers before and after, and the answer. The records follow document 01's order from the end: the comparison, what an assignment
-- brings, what a verdict brings, and all of the call.
module _ (prefix prefix-after loop loop-after : List ℕ) (x : Result Decoded Refusal) where
  -- an answer that leaves both buffers as they were, with what it returns
  abbrev pub Untouched : Result Decoded Refusal → Option Code → Type 0
  Untouched y c = (x ≡ y) × (prefix-after ≡ prefix) × (loop-after ≡ loop) × (returned x ≡ c)

  -- 12, with the comparison's word in the buffers
  pub record Differs (a C : Automaton) : Type 0 where
    pub comparison : Result (Unit {0}) Refusal
    pub shown : Shown C a prefix prefix-after loop loop-after comparison
    pub says : x ≡ Err (Differ (length shown.x) (length shown.y))
    pub number : returned x ≡ some (row 12 (length shown.x) (length shown.y))

  -- "The table is then compared with the reference." It has the reference's propositions, so 14 cannot come.
  pub record ByComparison (a C : Automaton) : Type 0 where
    pub same : Agree (view C) (view a) → Untouched (Ok (Table C)) option.none
    pub differ : ¬ Agree (view C) (view a) → Differs a C

  -- 11, and else the comparison
  pub record ByAssignment (a : Automaton) (τ : Target) (ν : Assignment) : Type 0 where
    pub no_step : (q l : ℕ) → LowestWithout a τ ν q l → Untouched (Err (NoStep q l)) (some (row 11 q l))
    pub table : AllStep a τ ν → ByComparison a (decoded_value a τ ν)

  -- r is what a reader holds at the end of a text that is not turned down. Of a reader that read a text, the verdict is stated; for any
  -- other, "no `s` line" at the end is 9.
  pub record ByVerdict (a : Automaton) (τ : Target) (r : Reader) : Type 0 where
    pub unstated : r.scan.verdict ≡ Unstated → Untouched (Err (SolverForm r.scan.at)) (some (row 9 r.scan.at 0))
    pub none : r.scan.verdict ≡ Unsatisfiable → Untouched (Ok NoTable) option.none
    pub unknown : r.scan.verdict ≡ NotKnown → Untouched (Ok Unknown) option.none
    pub satisfiable : r.scan.verdict ≡ Satisfiable → ByAssignment a τ (said r)

  module _ (a : Automaton) (τ : Target) (r : Reader) where
    -- nothing speaks against the buffers, the reference, the reader's state and the target
    pub record Admitted : Type 0 where
      pub prefix_room_fits : prefix_room ≤ length prefix
      pub loop_room_fits : loop_room ≤ length loop
      pub valid : Valid a
      pub in_range : InRange r
      pub sizes : Proper τ

    -- "Order: 13 (prefix before loop), 4 for handed values, 8, then reading left to right, then 11, 14, 12." And of the named acceptance "a yes
    -- past m: 4, 0, 0, after 8". The text that the reader r has read ends here.
    pub record Decodes : Type 0 where
      pub short_prefix : length prefix < prefix_room → Untouched (Err (Short prefix_room (length prefix))) (some (row 13 prefix_room (length prefix)))
      pub short_loop : prefix_room ≤ length prefix → length loop < loop_room
          → Untouched (Err (Short loop_room (length loop))) (some (row 13 loop_room (length loop)))
      pub automaton : prefix_room ≤ length prefix → loop_room ≤ length loop → ¬ Valid a → Untouched (Err Outside) (some (row 4 0 0))
      pub state : prefix_room ≤ length prefix → loop_room ≤ length loop → ¬ InRange r → Untouched (Err Outside) (some (row 4 0 0))
      pub dimensions : prefix_room ≤ length prefix → loop_room ≤ length loop → Valid a → InRange r → ¬ Dimensioned τ
          → Untouched (Err (Dimensions τ.states τ.sets)) (some (row 8 τ.states τ.sets))
      pub acceptance : prefix_room ≤ length prefix → loop_room ≤ length loop → Valid a → InRange r → Dimensioned τ → ¬ OwnSets τ.acceptance τ.sets
          → Untouched (Err Outside) (some (row 4 0 0))
      -- 9 and 10
      pub text : Admitted → (f : Refusal) → (whole a τ r).answer ≡ Err f → Untouched (Err f) (some (code_of f))
      pub accepted : Admitted → (whole a τ r).answer ≡ Ok tt → ByVerdict a τ (whole a τ r).reader

-- ---- the answer to a text with this outcome, whatever the pieces in which it came
pub record OfText (prefix prefix-after loop loop-after : List ℕ) (x : Result Decoded Refusal) (a : Automaton) (τ : Target) (o : Outcome) : Type 0 where
  -- 9 and 10
  pub refusal : (f : Refusal) → o ≡ refused f → Untouched prefix prefix-after loop loop-after x (Err f) (some (code_of f))
  pub none : (s : Seen) → o ≡ gives s → s.verdict ≡ Unsatisfiable → Untouched prefix prefix-after loop loop-after x (Ok NoTable) option.none
  pub unknown : (s : Seen) → o ≡ gives s → s.verdict ≡ NotKnown → Untouched prefix prefix-after loop loop-after x (Ok Unknown) option.none
  pub satisfiable : (s : Seen) → o ≡ gives s → s.verdict ≡ Satisfiable → ByAssignment prefix prefix-after loop loop-after x a τ (λ v. asserted v s.literals)
