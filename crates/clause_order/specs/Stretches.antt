-- The first multiple of a stretch of positions past one, and how many positions group 3 has at most.
use Rattle.std.specs.Prelude.{◌≡◌, ℕ, ◌+◌, ◌*◌, ◌/◌, ◌%◌, ◌^◌, ◌<◌, ◌≤◌, Bool, true}
use Rattle.std.proofs.Common.{mul-le-mul, pow_mono}
use Rattle.clause_sizes.specs.declared.Sizes.{Sizes}
use Rattle.clause_sizes.specs.Sizes.{Fitting}
use Rattle.clause_indices.specs.declared.Indices.{Indices}
use Rattle.clause_indices.specs.Indices.{extensions}
use Rattle.clause_order.specs.Passes.{transition_width}

-- `first`: k is a multiple itself
pub record PastOf (z : Sizes) (letters : ℕ) (first : Bool) (k j : ℕ) : Type 0 where
  pub is : Fitting z → 1 ≤ letters → letters ≤ z.letters → k < extensions z → (first ≡ true → k % (transition_width z * letters) ≡ 0)
      → j ≡ (k / (transition_width z * letters) + 1) * (transition_width z * letters)

pub extensions_le : {z : Sizes} → Fitting z → extensions z ≤ 8_589_934_592
extensions_le {z} f =
    let M-le : 2 ^ z.candidate.sets ≤ 16 = pow_mono {j = 4} f.m_le in
    let S-le : 2 ^ z.reference.sets ≤ 16 = pow_mono {j = 4} f.s_le in
    mul-le-mul (mul-le-mul (mul-le-mul (mul-le-mul (mul-le-mul (mul-le-mul (mul-le-mul (mul-le-mul f.n_le f.n_le) f.n_le) f.r_le) f.r_le) f.letters_le) M-le) S-le) M-le

-- the first indices of the next v, whose number wraps
abbrev pub next_state : Indices → Indices
next_state x = record { q = x.q; p = x.p; t = x.t; u = x.u; v = record { 0 = (x.v.0 + 1) % 2 ^ 64 }; l = 0; i = 0; j = 0; k = 0 }
