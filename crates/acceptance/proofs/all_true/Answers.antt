-- `all_true` meets its contract.
-- 1 shifted, in 64 bits
use mathlib.Core.Path.{◌≡◌, ap, ◌∙◌}
use Prim.Native.Nat.{ℕ, ◌*◌, ◌-◌, ◌%◌, ◌^◌, ◌≤◌}
use native.Mathlib.Nat.{mod-eq_of_lt}
use native.Mathlib.Omega.{arith}
use lib.Pow.{pow_pos, pow_mono}
use Rattle.acceptance.proofs.all_true.Goals as goal

shifted : {k : ℕ} → k ≤ 16 → 1 * 2 ^ k % 18446744073709551616 ≡ 2 ^ k
shifted {k} h =
    let l : 2 ^ k ≤ 65536 = pow_mono {j = 16} h in
    let e : 1 * 2 ^ k ≡ 2 ^ k = omega arith in
    rw (e) (mod-eq_of_lt (omega arith))

pub overflow_sub-result : goal.overflow_sub-result
overflow_sub-result c = omega (arith, shifted c.power_of_two.ensures.bounded.1, pow_pos c.power_of_two.result)

pub overflow_cast-result : goal.overflow_cast-result
overflow_cast-result c = record { fits = omega (arith, shifted c.power_of_two.ensures.bounded.1, pow_mono {j = 16} c.power_of_two.ensures.bounded.1) }

pub returns : goal.returns
returns c = ap (λ n. n - 1) (shifted c.power_of_two.ensures.bounded.1 ∙ ap (λ n. 2 ^ n) c.power_of_two.ensures.is)
