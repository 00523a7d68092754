-- `lasso::word_lines` meets its contract.
use Rattle.decimal.specs.Writing.{wrote_then}
use Rattle.console_report.proofs.lasso.word_lines.Goals as goal

pub returns : goal.returns
returns c = wrote_then c.letters_line-at.ensures.is c.letters_line.ensures.is
