-- Laws of sets of at most 16 numbers.
use Rattle.std.specs.Prelude.{◌≡◌, false, cond, ℕ, ◌%◌, ◌*◌, ◌^◌, ◌≤◌, ◌<◌}
use Rattle.std.proofs.Common.{ap, ◌∙◌, mod-eq_of_lt, arith, lt-ltb, le-ltb, pow_mono}
use Rattle.std.proofs.Math.Nat.{div-eq_of_lt}
use Rattle.std.proofs.Math.Pow.{pow-lt}
use Rattle.meaning.specs.BitSet.{digit, has}
use Rattle.bits.specs.Sets.{single}

-- a set below 2 ^ k has no member from k on
pub has_past : (k s i : ℕ) → s < 2 ^ k → k ≤ i → has s i ≡ false
has_past k s i h g =
    let m : 2 ^ k ≤ 2 ^ i = pow_mono g in
    let l : s < 2 ^ i = omega arith in
    ap (λ n. digit (n % 2)) (div-eq_of_lt l)

pub single_is : {i x : ℕ} → i < 16 → x ≡ single i → x ≡ 2 ^ i
single_is {i} h e = e ∙ ap (λ b. cond b (2 ^ i) 0) (lt-ltb i 16 h)

pub single_past : (i : ℕ) → 16 ≤ i → 0 ≡ single i
single_past i h = rw (le-ltb i 16 h)

-- 1 shifted, in 16 bits
pub shifted : (i : ℕ) → i < 16 → 1 * 2 ^ i % 65536 ≡ single i
shifted i h =
    let l : 2 ^ i < 65536 = pow-lt h in
    let e : 1 * 2 ^ i ≡ 2 ^ i = omega arith in
    rw (e, lt-ltb i 16 h) (mod-eq_of_lt l)
