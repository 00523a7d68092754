-- `marks` meets its contract. The invariant: the marks of the first i sets stand after the first two places.
use Prim.Native.Nat.{◌+◌}
use Rattle.decimal.specs.Wrote.{Wrote}
use Rattle.clause_indices.specs.Indices.{marks_of}
use Rattle.clause_indices.proofs.premise.marks.Given as goal

abbrev pub invariant-loop-i : goal.invariant-loop-i
invariant-loop-i l = Wrote l.initial.out 2 (marks_of l.z l.p.0 l.l l.t.0 l.k l.i) l.out (2 + l.i)
