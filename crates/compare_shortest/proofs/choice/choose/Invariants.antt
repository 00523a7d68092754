-- `choice::choose` meets its contract.
use Rattle.compare_shortest.specs.Workspace.{Ready}
use Rattle.compare_shortest.specs.Chosen.{Best}
use Rattle.compare_shortest.proofs.choice.choose.Given as goal

abbrev pub invariant-loop-i : goal.invariant-loop-i
invariant-loop-i l = Best l.table l.hits l.outer l.letters l.bound l.count l.i l.best × Ready l.table l.hits l.seen l.inner l.letters
