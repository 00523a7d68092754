-- `fill` meets its contract. The invariant: so many lines are written, and the next clause is looked for at x.
use Prim.Native.Nat.{◌-◌}
use Rattle.clause_sizes.specs.Numbers.{number_of}
use Rattle.clause_list.specs.Tables.{task_of}
use Rattle.clause_text.specs.Blocks.{Texts}
use Rattle.clause_text.specs.Filling.{Lines}
use Rattle.clause_text.proofs.batch.fill.Given as goal

abbrev pub invariant-loop-at : goal.invariant-loop-at
invariant-loop-at l =
    Lines (task_of l.z l.start.0 l.destinations l.marks) (number_of l.z) l.from l.initial.text 0 l.text l.at l.x × Texts l.z l.stores

abbrev pub decreases-loop-at : goal.decreases-loop-at
decreases-loop-at l = l.g.all - l.x
