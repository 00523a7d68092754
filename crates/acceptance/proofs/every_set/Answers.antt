-- `every_set` meets its contract.
use mathlib.Core.Path.{ap, ◌∙◌}
use Prim.Native.Nat.{◌-◌, ◌^◌}
use native.Mathlib.Omega.{arith}
use Rattle.bits.specs.SetLaws.{single_is}
use Rattle.acceptance.proofs.every_set.Goals as goal

pub returns : goal.returns
returns c = single_is (omega (arith, c.power_of_two.ensures.bounded)) c.single.ensures ∙ ap (λ n. 2 ^ (n - 1)) c.power_of_two.ensures.is
