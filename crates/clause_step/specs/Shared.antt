-- What the functions that are handed a reference and a target say after `measure`: the refusal, or the clauses of the reference's file.
use Rattle.std.specs.Prelude.{◌≡◌, ℕ, ◌≤◌}
use Rattle.std.proofs.Common.{ap, ◌∙◌}
use Rattle.std.proofs.Math.Option.{Option}
use Rattle.automaton.specs.declared.Automaton.{Automaton}
use Rattle.refusals.specs.declared.Code.{Code}
use Rattle.refusals.specs.declared.Refusal.{Refusal}
use Rattle.clause_sizes.specs.declared.Target.{Target}
use Rattle.clause_sizes.specs.declared.Sizes.{Sizes}
use Rattle.clause_sizes.specs.Targets.{numbers}
use Rattle.clause_sizes.specs.Numbers.{number_of}
use Rattle.clause_sizes.specs.Sizes as sizes
use Rattle.clause_sizes.specs.Sizes.{Refuses, target_of}
use Rattle.clause_sizes.specs.Measured.{Measured}
use Rattle.clause_list.specs.Tables.{task_of}
use Rattle.clause_list.specs.Measured.{measured_task, measured_number, measured_posed}
use Rattle.clause_list.specs.Next.{next_clause}
use Rattle.clause_list.specs.Following.{same_next}
use Rattle.clause_step.specs.Step.{TurnedDown, outside, dimensions, past_sets, found_from, last_position}

-- a refusal of the reference or the target is one of the call
pub refused_sizes : {a : Automaton} {τ : Target} {x needed given : ℕ} {f : Refusal} {c : Option Code} → needed ≤ given → x ≤ last_position → Refuses a τ f c
    → TurnedDown needed given a τ x f c
refused_sizes h l (sizes.outside v) = outside h (λ (w, i). v w)
refused_sizes h l (sizes.dimensions v i) = dimensions h v l i
refused_sizes h l (sizes.past_sets v i o) = past_sets h v l i o

-- the clauses that are found are those of the reference's file
pub measured_found : {a : Automaton} {z : Sizes} → Measured a z → (x : ℕ)
    → next_clause (task_of z a.start a.destinations a.marks) (number_of z) x ≡ found_from a (target_of z) x
measured_found {a} {z} w x = ap (λ T. next_clause T (number_of z) x) (measured_task w) ∙ same_next (measured_posed w) (number_of z) (numbers a (target_of z)) (measured_number w) x
