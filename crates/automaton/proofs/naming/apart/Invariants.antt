-- `naming::apart` meets its contract.
use Rattle.std.proofs.Common.{◌≡◌, true, not, ◌/◌, ◌%◌}
use Rattle.automaton.specs.Tests.{passes, clash}
use Rattle.automaton.proofs.naming.apart.Given as goal

abbrev pub invariant-loop-pair : goal.invariant-loop-pair
invariant-loop-pair l = passes l.pair (λ k. not (clash l.names l.count (k / 4) (k % 4))) ≡ true
