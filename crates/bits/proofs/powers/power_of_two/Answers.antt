-- `powers::power_of_two` meets its contract.
use Prim.Native.Nat.{min}
use mathlib.Core.Path.{◌≡◌, refl}
use native.Mathlib.Omega.{arith}
use Rattle.bits.proofs.powers.power_of_two.Goals as goal

pub returns-in-0 : goal.returns-in-0
returns-in-0 c = rw c.in-0.is (record { is = refl; bounded = (omega arith, omega arith) })

pub returns-in-1 : goal.returns-in-1
returns-in-1 c = rw c.in-1.is (record { is = refl; bounded = (omega arith, omega arith) })

pub returns-in-2 : goal.returns-in-2
returns-in-2 c = rw c.in-2.is (record { is = refl; bounded = (omega arith, omega arith) })

pub returns-in-3 : goal.returns-in-3
returns-in-3 c = rw c.in-3.is (record { is = refl; bounded = (omega arith, omega arith) })

pub returns-in_default : goal.returns-in_default
returns-in_default c = let e : min c.args.k 4 ≡ 4 = omega arith in
    rw e (record { is = refl; bounded = (omega arith, omega arith) })
