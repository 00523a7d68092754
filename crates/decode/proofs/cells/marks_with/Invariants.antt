-- `cells::marks_with` meets its contract.
use mathlib.Core.Path.{◌≡◌}
use lib.Dec.{eqb}
use lib.ListN.{get_or}
use Rattle.encoding.specs.Variables.{mark}
use Rattle.clause_sizes.specs.Numbers.{number_of}
use Rattle.decode.proofs.Laws.{upper}
use Rattle.decode.proofs.cells.marks_with.Given as goal

abbrev pub invariant-loop-i : goal.invariant-loop-i
invariant-loop-i l = l.marks ≡ upper l.z.candidate.sets (λ k. eqb (get_or l.named (number_of l.z (mark l.q.0 l.l k l.p.0)) 0) 1) l.i
