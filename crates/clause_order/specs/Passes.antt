-- DEFINITION: past a stretch of positions of group 3, by indices and by number.
use Rattle.std.specs.Prelude.{◌≡◌, ℕ, ◌+◌, ◌*◌, ◌/◌, ◌^◌, ◌<◌, ◌≤◌}
use Rattle.clause_sizes.specs.declared.Sizes.{Sizes}
use Rattle.clause_sizes.specs.Sizes.{Fitting}
use Rattle.clause_indices.specs.declared.Indices.{Indices}
use Rattle.clause_indices.specs.Indices.{extensions, extension_indices}
use Rattle.clause_order.specs.declared.passing.Place.{Place}

-- how many positions there are for one transition of the reference, and for all that leave one state
abbrev pub transition_width : Sizes → ℕ
transition_width z = 2 ^ z.candidate.sets * 2 ^ z.reference.sets * 2 ^ z.candidate.sets

abbrev pub state_width : Sizes → ℕ
state_width z = transition_width z * z.letters

-- q, p, t and u stay on all input. Where x has the indices of position k, y is at the first multiple of the width past k, and has its indices where its v is a state.
pub record Passes (z : Sizes) (width : ℕ) (x : Indices) (k : ℕ) (y : Place) : Type 0 where
  pub same_q : y.indices.q ≡ x.q
  pub same_p : y.indices.p ≡ x.p
  pub same_t : y.indices.t ≡ x.t
  pub same_u : y.indices.u ≡ x.u
  pub next : Fitting z → k < extensions z → x ≡ extension_indices z k
      → (y.position ≡ (k / width + 1) * width) × (y.position ≤ extensions z)
      × (y.indices.v.0 < z.reference.states → (y.position < extensions z) × (y.indices ≡ extension_indices z y.position))
