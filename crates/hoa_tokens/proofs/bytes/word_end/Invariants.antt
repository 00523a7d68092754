-- `bytes::word_end` meets its contract.
use Rattle.hoa_text.specs.Tokens.{in_word}
use Rattle.hoa_tokens.proofs.Laws.{Scanned}
use Rattle.hoa_tokens.proofs.bytes.word_end.Given as goal

abbrev pub invariant-loop-end : goal.invariant-loop-end
invariant-loop-end l = Scanned in_word l.text l.from l.end
