-- `naming::bytes_fit` meets its contract.
use Rattle.std.proofs.Common.{◌≡◌, true, ◌/◌, get_or}
use Rattle.automaton.specs.Tests.{passes, byte_fits}
use Rattle.automaton.proofs.naming.bytes_fit.Given as goal

abbrev pub invariant-loop-i : goal.invariant-loop-i
invariant-loop-i l = passes l.i (λ k. byte_fits k (get_or l.names k 0) (get_or l.lengths (k / 16) 0)) ≡ true
