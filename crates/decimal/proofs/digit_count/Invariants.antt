-- `digit_count` meets its contract: the count at each turn is where the counting has come to.
use mathlib.Core.Path.{◌≡◌}
use Prim.Native.Nat.{◌-◌}
use Rattle.decimal.specs.Decimal.{places}
use Rattle.decimal.proofs.digit_count.Given as goal

abbrev pub invariant-loop-count : goal.invariant-loop-count
invariant-loop-count l = places 19 1 l.n ≡ places (20 - l.count) l.count l.n
