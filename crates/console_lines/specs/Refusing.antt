-- DEFINITION: what is handed over of a refusal.
use Rattle.std.specs.Prelude.{◌≡◌, length}
use Rattle.refusals.specs.declared.Refusal.{Refusal}
use Rattle.refusals.specs.Refused.{code_of}
use Rattle.console_places.specs.declared.Place.{Place}
use Rattle.console_report.specs.Lines.{refused_line}
use Rattle.console_sentences.specs.Sentences.{sentence}
use Rattle.console_print.specs.Handed.{Hands}
use Rattle.console_lines.specs.declared.TurnedDown.{TurnedDown}

-- the line with its number and two values, and on standard error its sentence
pub record HandsRefusal (x : Refusal) (p : Place) (r : TurnedDown) : Type 0 where
  pub code : r.code ≡ code_of x
  pub line : Hands (refused_line x) r.line
  pub said : r.sentence ≡ length (sentence x p)
