-- A reader has an entry for each step and mark variable, and nothing else is decoded.
use Rattle.std.specs.Prelude.{◌≡◌, ℕ, ◌<◌}
use Rattle.std.proofs.Common.{arith}
use Rattle.encoding.specs.Variables.{step, mark}
use Rattle.clause_sizes.specs.declared.Sizes.{Sizes}
use Rattle.clause_sizes.specs.Sizes.{Fitting}
use Rattle.clause_sizes.specs.Numbers.{InFile, number_of}
use Rattle.clause_sizes.specs.Limits.{step_small, mark_small}

module _ {z : Sizes} (f : Fitting z) where
  pub step_slot : {k : ℕ} (q l p : ℕ) → InFile z (step q l p) → k ≡ number_of z (step q l p) → k < 5121
  step_slot q l p h e = omega (arith, step_small f q l p h)

  pub mark_slot : {k : ℕ} (q l i p : ℕ) → InFile z (mark q l i p) → k ≡ number_of z (mark q l i p) → k < 5121
  mark_slot q l i p h e = omega (arith, mark_small f q l i p h)
