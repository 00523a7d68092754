-- A reference in "The automaton" with a target in its limits has sizes that fit, and their numbers are those of its file; bounds of sizes.
use Rattle.std.specs.Prelude.{◌≡◌, refl, Bool, ℕ, ◌+◌, ◌*◌, ◌^◌, ◌≤◌}
use Rattle.std.proofs.Common.{sym, subst, arith, pow_pos, mul-le-mul, le_trans}
use Rattle.std.proofs.Math.Arith.{digits_lt}
use Rattle.meaning.specs.Counting.{total, how_many}
use Rattle.meaning.specs.Totals.{total_le, how_many_le}
use Rattle.acceptance.specs.Laws.{every_set_own}
use Rattle.automaton.specs.declared.Automaton.{Automaton}
use Rattle.automaton.specs.Value.{Valid}
use Rattle.bits.specs.Powers.{power_le}
use Rattle.automaton.specs.Letters.{letters_le}
use Rattle.automaton.specs.View.{view}
use Rattle.encoding.specs.Variables.{Var, step, mark, Present}
use Rattle.clause_sizes.specs.declared.Target.{Target}
use Rattle.clause_sizes.specs.declared.Sizes.{Sizes}
use Rattle.clause_sizes.specs.Targets.{every, Dimensioned, Proper, task, numbers, last}
use Rattle.clause_sizes.specs.Sizes.{Fitting, sizes_of}
use Rattle.clause_sizes.specs.Numbers.{InFile, number_of, last_variable}
use Rattle.clause_sizes.specs.SizedNumbers.{numbers_are, variables_are, sizes_rowed}

-- each row holds at most all states
pairs_square : {a : Automaton} (kept : ℕ → ℕ → Bool) → Valid a → total a.states (λ i. how_many a.states (kept i)) ≤ 256
pairs_square {a} kept v =
    le_trans (total_le a.states a.states (λ i. how_many a.states (kept i)) (λ i h. how_many_le a.states (kept i))) (mul-le-mul v.states_le v.states_le)

pub sizes_fit : {a : Automaton} {τ : Target} → Valid a → Proper τ → Fitting (sizes_of a τ)
sizes_fit {a} {τ} v t = record {
  n_some = t.dimensioned.n_some;
  n_le = t.dimensioned.n_le;
  m_le = t.dimensioned.m_le;
  r_some = omega (arith, v.start_lt);
  r_le = v.states_le;
  s_le = v.sets_le;
  letters_some = pow_pos a.propositions;
  letters_le = letters_le v;
  candidate_subsets = refl;
  reference_subsets = refl;
  steps_is = refl;
  marks_is = refl;
  pairs_le = subst (λ k. k ≤ 256) (sym (sizes_rowed τ v).pairs_is) (pairs_square (task a τ).kept v);
}

-- Inf of all sets has no yes past m
pub every_proper : {n m : ℕ} → Dimensioned (every n m) → Proper (every n m)
every_proper d = record { dimensioned = d; sets_owned = every_set_own d.m_le refl }

-- ---- bounds

pub square_le : {n L : ℕ} → n ≤ 8 → L ≤ 16 → n * n * L ≤ 1024
square_le hn hL = mul-le-mul (mul-le-mul hn hn) hL

module _ {z : Sizes} (f : Fitting z) where
  subsets_le : {k x : ℕ} → k ≤ 4 → x ≡ 2 ^ k → x ≤ 16
  subsets_le h e = omega (arith, e, power_le h)

  pub candidate_subsets_le : z.candidate.subsets ≤ 16
  candidate_subsets_le = subsets_le f.m_le f.candidate_subsets

  pub reference_subsets_le : z.reference.subsets ≤ 16
  reference_subsets_le = subsets_le f.s_le f.reference_subsets

  pub steps_le : z.steps ≤ 1024
  steps_le = omega (arith, f.steps_is, square_le f.n_le f.letters_le)

  pub marks_le : z.marks ≤ 5120
  marks_le = omega (arith, f.marks_is, steps_le, mul-le-mul (square_le f.n_le f.letters_le) f.m_le)

  -- V
  pub squares_le : z.candidate.states * z.candidate.states ≤ 64
  squares_le = mul-le-mul f.n_le f.n_le

  pub pairs_cap : z.candidate.states * z.candidate.states * z.paths.pairs ≤ 16384
  pairs_cap = mul-le-mul squares_le f.pairs_le

  pub markings_le : z.candidate.subsets * z.reference.subsets ≤ 256
  markings_le = mul-le-mul candidate_subsets_le reference_subsets_le

  pub paths_le : z.candidate.states * z.candidate.states * z.paths.pairs * (z.candidate.subsets * z.reference.subsets) ≤ 4194304
  paths_le = mul-le-mul pairs_cap markings_le

  pub last_variable_is : z.marks + z.candidate.states * z.candidate.states * z.paths.pairs * (z.candidate.subsets * z.reference.subsets) ≡ last_variable z
  last_variable_is = rw (f.marks_is, f.steps_is, f.candidate_subsets, f.reference_subsets) (omega arith)

  pub last_le : last_variable z ≤ 4_199_424
  last_le = omega (arith, sym last_variable_is, marks_le, paths_le)

  -- the step and mark variables
  pub step_small : (q l p : ℕ) → InFile z (step q l p) → number_of z (step q l p) ≤ 5120
  step_small q l p h = omega (arith, f.marks_is, f.steps_is, marks_le, digits_lt (digits_lt h.0 h.1) h.2)

  pub mark_small : (q l i p : ℕ) → InFile z (mark q l i p) → number_of z (mark q l i p) ≤ 5120
  mark_small q l i p h = omega (arith, f.marks_is, f.steps_is, marks_le, digits_lt (digits_lt (digits_lt h.0 h.1) h.2) h.3)

-- ---- the file of a reference

pub file_variables : {a : Automaton} (τ : Target) → Valid a → last_variable (sizes_of a τ) ≡ last a τ
file_variables {a} τ v = variables_are (sizes_of a τ) a.start (view a).step (view a).marks (view a).accept (sizes_rowed τ v)

pub file_numbers : {a : Automaton} (τ : Target) → Valid a → (x : Var) → Present (task a τ) x → number_of (sizes_of a τ) x ≡ numbers a τ x
file_numbers {a} τ v = numbers_are (sizes_of a τ) a.start (view a).step (view a).marks (view a).accept (sizes_rowed τ v)
