-- Powers of two up to 16, as `power_of_two` gives them: letters and sets of marks.
use Rattle.std.specs.Prelude.{◌≡◌, ℕ, ◌^◌, ◌≤◌, min}
use Rattle.std.proofs.Common.{ap, ◌∙◌, arith, pow_mono}

pub power_is : {k x : ℕ} → k ≤ 4 → x ≡ 2 ^ min k 4 → x ≡ 2 ^ k
power_is {k} h e = let i : min k 4 ≡ k = omega arith in e ∙ ap (λ j. 2 ^ j) i

pub power_le : {k : ℕ} → k ≤ 4 → 2 ^ k ≤ 16
power_le h = pow_mono {j = 4} h
