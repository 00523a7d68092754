-- `lasso::numbers` meets its contract.
use lib.ListN.{take}
use Rattle.console_report.proofs.Spacing.{Spaced}
use Rattle.console_report.proofs.lasso.numbers.Given as goal

abbrev pub invariant-loop-letter : goal.invariant-loop-letter
invariant-loop-letter l = Spaced (take l.size l.letters) l.initial.out l.at 4 l.letter-index l.out l.next
