-- DEFINITION: the position of group 3 that follows one in its block, by its indices.
use Rattle.std.specs.Prelude.{◌≡◌, ℕ, ◌+◌, ◌<◌}
use Rattle.clause_sizes.specs.declared.Sizes.{Sizes}
use Rattle.clause_sizes.specs.Sizes.{Fitting}
use Rattle.clause_indices.specs.declared.Indices.{Indices}
use Rattle.clause_indices.specs.Indices.{extensions, extension_indices}

-- q, p, t and u stay on all input. Where x has the indices of a position and y's v is a state, y has those of the position after it; so where that
-- position lies in another block, y's v is no state. That a block is gone through to its end is not said: `lines` goes on from any position.
pub record Follows (z : Sizes) (x y : Indices) : Type 0 where
  pub same_q : y.q ≡ x.q
  pub same_p : y.p ≡ x.p
  pub same_t : y.t ≡ x.t
  pub same_u : y.u ≡ x.u
  pub next : Fitting z → (k : ℕ) → k < extensions z → x ≡ extension_indices z k → y.v.0 < z.reference.states
      → (k + 1 < extensions z) × (y ≡ extension_indices z (k + 1))
