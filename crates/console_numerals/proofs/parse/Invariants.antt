-- `parse` meets its contract.
use Rattle.console_numerals.proofs.Parsing.{Begun}
use Rattle.console_numerals.proofs.parse.Given as goal

abbrev pub invariant-loop-byte : goal.invariant-loop-byte
invariant-loop-byte l = Begun l.word l.value l.byte-index
