-- `name::among` meets its contract.
use mathlib.Core.Path.{◌≡◌}
use mathlib.Core.List.{List}
use Prim.Native.Nat.{ℕ}
use lib.ListN.{length, drop}
use Rattle.hoa_text.specs.Header as Header
use Rattle.hoa_names.specs.Naming.{Slots}
use Rattle.hoa_names.proofs.name.among.Given as goal

abbrev pub invariant-loop-i : goal.invariant-loop-i
invariant-loop-i l = (ws : List (List ℕ)) → length ws ≡ l.count → Slots ws l.lengths l.bytes → Header.among l.word ws ≡ Header.among l.word (drop l.i ws)
