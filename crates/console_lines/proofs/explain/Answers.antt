-- `explain` meets its contract.
use mathlib.Core.Path.{ap, ◌∙◌}
use lib.ListN.{length}
use Rattle.decimal.specs.Writing.{wrote_front}
use Rattle.console_lines.proofs.explain.Goals as goal

pub returns : goal.returns
returns c = c.say-3.ensures ∙ ap length (wrote_front c.sentence-length.ensures)
