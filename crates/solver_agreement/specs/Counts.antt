-- The numbers of a file stay small.
use Rattle.std.proofs.Common.{subst}
use Rattle.std.specs.Prelude.{◌≤◌}
use Rattle.automaton.specs.declared.Automaton.{Automaton}
use Rattle.automaton.specs.Value.{Valid}
use Rattle.clause_sizes.specs.declared.Target.{Target}
use Rattle.clause_sizes.specs.Targets.{Proper, last, kept}
use Rattle.clause_sizes.specs.Limits as Limits

module _ {a : Automaton} {τ : Target} (v : Valid a) (d : Proper τ) where
  pub kept_le : kept a τ ≤ 5120
  kept_le = Limits.marks_le (Limits.sizes_fit v d)

  pub last_le : last a τ ≤ 4_199_424
  last_le = subst (λ k. k ≤ 4_199_424) (Limits.file_variables τ v) (Limits.last_le (Limits.sizes_fit v d))
