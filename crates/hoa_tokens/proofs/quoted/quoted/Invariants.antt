-- `quoted::quoted` meets its contract.
use Prim.Native.Nat.{◌+◌}
use Rattle.hoa_text.specs.QuotedOffsets.{InQuotes}
use Rattle.hoa_tokens.proofs.quoted.quoted.Given as goal

abbrev pub invariant-loop-end : goal.invariant-loop-end
invariant-loop-end l = InQuotes l.text (l.start + 1) l.end l.carried
