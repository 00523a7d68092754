-- `lines_from` meets its contract. The invariant: the lines on to a position are written, and the first paths and the texts are those of its indices.
use Prim.Native.Nat.{◌-◌}
use Rattle.clause_indices.specs.Indices.{extensions}
use Rattle.clause_text.proofs.Blocks.{AtBlock}
use Rattle.clause_text.proofs.block.lines_from.Given as goal

abbrev pub invariant-loop-z : goal.invariant-loop-z
invariant-loop-z l =
    AtBlock l.z l.shorter l.longer l.destinations l.marks l.from l.initial.text l.at l.text l.stores l.x l.position l.to

abbrev pub decreases-loop-z : goal.decreases-loop-z
decreases-loop-z l = extensions l.z - l.position
