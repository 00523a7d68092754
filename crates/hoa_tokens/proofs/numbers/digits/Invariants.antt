-- `numbers::digits` meets its contract.
use mathlib.Core.Path.{◌≡◌}
use lib.Seq.{slice}
use Rattle.hoa_text.specs.Tokens.{digit, value}
use Rattle.hoa_tokens.proofs.Laws.{Scanned}
use Rattle.hoa_tokens.proofs.numbers.digits.Given as goal

abbrev pub invariant-loop-end : goal.invariant-loop-end
invariant-loop-end l = Scanned digit l.text l.start l.end × (l.value ≡ value (slice l.start l.end l.text))
