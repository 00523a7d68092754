-- `bytes::skip_blanks` meets its contract.
use Prim.Native.Nat.{◌≤◌, max}
use lib.ListN.{length}
use Rattle.hoa_tokens.proofs.Laws.{Passed}
use Rattle.hoa_tokens.proofs.bytes.skip_blanks.Given as goal

abbrev pub invariant-loop-i : goal.invariant-loop-i
invariant-loop-i l = Passed l.text l.at l.i × (l.i ≤ max l.at (length l.text))
