-- What the clause step finds.
use mathlib.Core.Path.{◌≡◌, sym, ap, ◌∙◌}
use mathlib.Core.List.{List}
use Prim.Native.Nat.{ℕ}
use lib.IntN.{ℤ}
use lib.ListN.{length}
use Rattle.automaton.specs.declared.Automaton.{Automaton}
use Rattle.decimal.specs.Writing.{wrote_length}
use Rattle.clause_sizes.specs.declared.Sizes.{Sizes}
use Rattle.clause_sizes.specs.Numbers.{number_of}
use Rattle.clause_sizes.specs.Measured.{Measured}
use Rattle.clause_sizes.specs.Sizes.{target_of}
use Rattle.clause_list.specs.Tables.{task_of}
use Rattle.clause_list.specs.Next.{next_clause}
use Rattle.clause_list.specs.Handing.{HandsAt}
use Rattle.std.specs.Prelude.{Option, Some, None}
use Rattle.clause_step.specs.Step.{StepFound}
use Rattle.clause_step.specs.Shared.{measured_found}

module _ {a : Automaton} {z : Sizes} (w : Measured a z) (x : ℕ) (d e : List ℤ) (y : ℕ) where
  pub step_found : (k : Option ℕ) → HandsAt (next_clause (task_of z a.start a.destinations a.marks) (number_of z) x) d e y k → StepFound a (target_of z) x d e k y
  step_found (Some k) (c, f, v, l) = (c, sym (measured_found w x) ∙ f, v)
  step_found None (f, v) = (sym (measured_found w x) ∙ f, v)

  pub hands_length : (k : Option ℕ) → HandsAt (next_clause (task_of z a.start a.destinations a.marks) (number_of z) x) d e y k → length e ≡ length d
  hands_length (Some k) (c, f, v, l) = wrote_length v
  hands_length None (f, v) = ap length v
