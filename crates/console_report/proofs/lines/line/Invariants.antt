-- `lines::line` meets its contract.
use Rattle.console_report.proofs.Spacing.{Spaced}
use Rattle.console_report.proofs.lines.line.Given as goal

abbrev pub invariant-loop-n : goal.invariant-loop-n
invariant-loop-n l = Spaced l.numbers l.initial.out l.initial.at 21 l.n-index l.out l.at
