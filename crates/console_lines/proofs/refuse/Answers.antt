-- `refuse` meets its contract.
use mathlib.Core.Path.{ap, ◌∙◌}
use lib.ListN.{length}
use Rattle.decimal.specs.Writing.{wrote_front}
use Rattle.console_lines.proofs.refuse.Goals as goal

pub returns : goal.returns
returns c = record {
  code = c.code.ensures;
  line = c.print_line-line.ensures ∙ ap length (wrote_front c.refused-length.ensures);
  said = c.explain.ensures;
}
