-- `hear_some` meets its contract: a piece that was read is not empty.
use Rattle.std.proofs.Common.{refl, arith}
use Rattle.console_read.specs.Reading.{once_le}
use Rattle.console_answers.specs.declared.Stage.TheVariants.{Whole, Failed}
use Rattle.console_answers.specs.Bringing.{last_call, failed_call}
use Rattle.console_answers.specs.SoFar.{ends, goes}
use Rattle.console_answers.proofs.Places.{piece_some}
use Rattle.console_answers.proofs.hear_some.Goals as goal

pub returns-in-None : goal.returns-in-None
returns-in-None g c = ends Failed refl (failed_call c.in-None.ensures) refl

pub returns-in-Some-eq0 : goal.returns-in-Some-eq0
returns-in-Some-eq0 g c = ends Whole refl (last_call c.in-Some-eq0.ensures (omega arith)) refl

pub returns-in-Some : goal.returns-in-Some
returns-in-Some g c =
    let o = c.in-Some.ensures in
    let (some, most) =
    piece_some c.in-Some.length 65536 c.read_some.new.part _ c.first-piece.ensures (once_le o) (omega (arith, c.read_some.auto.part))
    c.in-Some.length-test.1 in
    goes _ some most c.hear.ensures
