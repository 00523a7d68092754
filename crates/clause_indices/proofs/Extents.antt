-- How many positions there are at the most.
use mathlib.Core.Path.{refl}
use Prim.Native.Nat.{ℕ, ◌+◌, ◌*◌, ◌≤◌}
use native.Mathlib.Nat.{mul-le-mul}
use native.Mathlib.Omega.{arith}
use Rattle.clause_sizes.specs.declared.Sizes.{Sizes}
use Rattle.clause_sizes.specs.Sizes.{Fitting}
use Rattle.clause_sizes.specs.Limits.{candidate_subsets_le, reference_subsets_le}
use Rattle.clause_indices.specs.Indices.{ExtentOf}

module _ {z : Sizes} (f : Fitting z) where
  abbrev n : ℕ
  n = z.candidate.states

  abbrev r : ℕ
  r = z.reference.states

  abbrev L : ℕ
  L = z.letters

  abbrev M : ℕ
  M = z.candidate.subsets

  abbrev S : ℕ
  S = z.reference.subsets

  pub square_le : n * n ≤ 64
  square_le = mul-le-mul f.n_le f.n_le

  pub pairs_le : n * n * r ≤ 1024
  pairs_le = mul-le-mul square_le f.r_le

  pub moves_le : n * n * r * L ≤ 16384
  moves_le = mul-le-mul pairs_le f.letters_le

  pub two_le : M * S ≤ 256
  two_le = mul-le-mul (candidate_subsets_le f) (reference_subsets_le f)

  pub markings_le : M * S * M ≤ 4096
  markings_le = mul-le-mul two_le (candidate_subsets_le f)

  pub product_le : n * n * r * L * (M * S * M) ≤ 67108864
  product_le = mul-le-mul moves_le markings_le

  pub states_le : n * r ≤ 128
  states_le = mul-le-mul f.n_le f.r_le

  pub third_le : n * r * (n * n * r * L * (M * S * M)) ≤ 8589934592
  third_le = mul-le-mul states_le product_le

  pub first_le : n * L ≤ 128
  first_le = mul-le-mul f.n_le f.letters_le

  pub extent_is : ExtentOf z (record {
    first = n * L;
    second = 1 + n * n * r * L;
    third = n * r * (n * n * r * L * (M * S * M));
    all = n * L + (1 + n * n * r * L + (n * r * (n * n * r * L * (M * S * M)) + n * n * r * L * (M * S * M)));
  })
  extent_is = record {
    first_is = refl;
    second_is = refl;
    third_is = rw (f.candidate_subsets, f.reference_subsets) (omega arith);
    all_is = rw (f.candidate_subsets, f.reference_subsets) (omega arith);
    all_le = omega (arith, first_le, moves_le, third_le, product_le);
  }
