-- The batches so far, and what is left: each batch leaves fewer clauses.
use Rattle.std.proofs.Common.{◌+◌, ◌*◌, ◌≤◌}
use Rattle.console_clauses.specs.Left.{left}
use Rattle.console_clauses.specs.Batch.{Begun}
use Rattle.console_clauses.proofs.print_batches.Given as goal

abbrev pub invariant-loop-length : goal.invariant-loop-length
invariant-loop-length l =
    Begun l.reference l.target l.initial.bytes l.position l.bytes × (l.bytes + 262144 * left l.reference l.target l.position ≤ 80 + 262144 * 8657059969)
    × (l.position ≤ 8657059969)

abbrev pub decreases-loop-length : goal.decreases-loop-length
decreases-loop-length l = left l.reference l.target l.position
