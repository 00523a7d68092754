-- `totality` meets its contract. The invariant: the first p steps stand at the start of the buffer.
use Rattle.decimal.specs.Wrote.{Wrote}
use Rattle.clause_list.specs.Groups.{totality_of}
use Rattle.clause_list.proofs.groups.totality.Given as goal

abbrev pub invariant-loop-p : goal.invariant-loop-p
invariant-loop-p l = Wrote l.initial.out 0 (totality_of l.z l.q.0 l.l l.p) l.out l.p
