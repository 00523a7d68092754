-- `cells::lowest_step` meets its contract.
use mathlib.Core.Path.{◌≡◌}
use mathlib.Core.Bool.{false}
use Prim.Native.Nat.{ℕ, ◌<◌}
use lib.Dec.{eqb}
use lib.ListN.{get_or}
use Rattle.encoding.specs.Variables.{step}
use Rattle.clause_sizes.specs.Numbers.{number_of}
use Rattle.decode.proofs.cells.lowest_step.Given as goal

abbrev pub invariant-loop-p : goal.invariant-loop-p
invariant-loop-p l = (j : ℕ) → j < l.p → eqb (get_or l.named (number_of l.z (step l.q.0 l.l j)) 0) 1 ≡ false
