-- `lines::refused` meets its contract.
use Rattle.console_report.proofs.Coding.{coded}
use Rattle.console_report.proofs.lines.refused.Goals as goal

pub returns : goal.returns
returns c = coded c.args.x c.code-code.ensures c.line.ensures
