-- The buffer keeps its length, and its unwritten rest falls.
use Rattle.std.proofs.Common.{◌≡◌, ◌-◌, ◌≤◌, length}
use Rattle.console_read.proofs.Rest as rest
use Rattle.console_read.proofs.read_all.Given as goal

abbrev pub invariant-loop-filled : goal.invariant-loop-filled
invariant-loop-filled g l = (l.filled ≤ length l.text) × (length l.text ≡ length l.initial.text) × rest.Begun (length l.text) l.filled

abbrev pub decreases-loop-filled : goal.decreases-loop-filled
decreases-loop-filled g l = length l.text - l.filled
