-- `names_from` meets its contract.
use Prim.Native.Nat.{◌≤◌}
use Rattle.hoa_names.proofs.Text.{SoFar}
use Rattle.hoa_names.proofs.names_from.Given as goal

abbrev pub invariant-loop-i : goal.invariant-loop-i
invariant-loop-i l = (l.count ≤ 4) × SoFar l.text l.at l.count l.read.names l.read.end l._i
