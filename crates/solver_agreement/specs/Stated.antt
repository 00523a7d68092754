-- WHAT A READER HOLDS OF A TEXT THAT STATES AN ASSIGNMENT, whatever the pieces in which it came.
use Rattle.std.specs.Prelude.{◌≡◌, Bool, List, ℕ, ◌≤◌, ◌<◌, eqb, get_or, Ok}
use Rattle.std.proofs.Common.{sym, ap, ◌∙◌}
use Rattle.automaton.specs.declared.Automaton.{Automaton}
use Rattle.automaton.specs.Value.{Valid}
use Rattle.clause_sizes.specs.declared.Target.{Target}
use Rattle.clause_sizes.specs.Targets.{Proper, last, kept}
use Rattle.solver_text.specs.declared.Reader.{Reader}
use Rattle.solver_text.specs.declared.Reply.{Reply}
use Rattle.solver_scan.specs.declared.Place.TheVariants.{Ended}
use Rattle.solver_scan.specs.declared.Verdict.TheVariants.{Satisfiable}
use Rattle.solver_agreement.specs.Assignment.{States}
use Rattle.solver_text.specs.Machine.{fresh}
use Rattle.solver_text.specs.Calls.{Reads, Ends, joined}
use Rattle.solver_agreement.specs.Counts.{kept_le}
use Rattle.solver_agreement.specs.Table.{table_asserted}
use Rattle.solver_agreement.specs.Pieces.{whole_text}

-- the step and mark variables that are true by the table are those that the assignment says yes to
pub record Holds (kept : ℕ) (assignment : ℕ → Bool) (e : Reply) : Type 0 where
  pub accepted : e.answer ≡ Ok tt
  pub ended : e.reader.scan.place ≡ Ended
  pub verdict : e.reader.scan.verdict ≡ Satisfiable
  pub named : (v : ℕ) → 0 < v → v ≤ kept → eqb (get_or e.reader.named v 0) 1 ≡ assignment v

pub stated : {a : Automaton} {τ : Target} → Valid a → Proper τ → {us : List (List ℕ)} {q : Reader} {e : Reply} → Reads a τ fresh us q → Ends a τ q e
    → {assignment : ℕ → Bool} → States (last a τ) (kept a τ) (joined us) assignment → Holds (kept a τ) assignment e
stated {a} {τ} v z {us} {q} {e} k c s =
    let t = whole_text v z k c in
    record {
      accepted = t.accepted s.seen s.accepted;
      ended = t.ended s.seen s.accepted;
      verdict = t.verdict s.seen s.accepted ∙ s.verdict;
      named = λ i h g.
          ap (λ l. eqb (get_or l i 0) 1) (t.named s.seen s.accepted)
          ∙ table_asserted (kept a τ) (kept_le v z) s.seen.literals i g ∙ sym (s.named i h g);
    }
