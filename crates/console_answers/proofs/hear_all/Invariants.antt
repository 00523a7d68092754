-- What is promised of the text so far; fewer bytes can come with each piece.
use Rattle.console_answers.specs.SoFar.{SoFar}
use Rattle.console_answers.proofs.Further.{ahead}
use Rattle.console_answers.proofs.hear_all.Given as goal

abbrev pub invariant-loop-heard : goal.invariant-loop-heard
invariant-loop-heard g l = SoFar l.reference l.target l.heard

abbrev pub decreases-loop-heard : goal.decreases-loop-heard
decreases-loop-heard g l = ahead l.heard
