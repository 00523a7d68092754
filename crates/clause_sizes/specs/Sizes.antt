-- DEFINITIONS: the sizes of a clause file, as the code carries them, and for which reference and target there is a file.
use Rattle.std.specs.Prelude.{◌≡◌, cond, List, ℕ, ◌+◌, ◌*◌, ◌^◌, ◌≤◌, ltb, Result, Ok, Err}
use Rattle.std.proofs.Math.Option.{Option, none, some}
use Rattle.meaning.specs.BitSet.{set_of}
use Rattle.acceptance.specs.Masks.{OwnSets}
use Rattle.automaton.specs.declared.Automaton.{Automaton}
use Rattle.refusals.specs.declared.Code.{Code}
use Rattle.refusals.specs.declared.Refusal.{Refusal}
use Rattle.refusals.specs.declared.Refusal.TheVariants.{Outside, Dimensions}
use Rattle.refusals.specs.Refused.{row, code_of}
use Rattle.automaton.specs.Value.{Valid, table}
use Rattle.automaton.specs.View.{view}
use Rattle.encoding.specs.Named.{kept_by}
use Rattle.clause_rows.specs.declared.Rows.{Rows}
use Rattle.clause_rows.specs.Rows.{rows_of}
use Rattle.clause_sizes.specs.declared.Listing.{Listing}
use Rattle.clause_sizes.specs.declared.Target.{Target}
use Rattle.clause_sizes.specs.declared.Counts.{Counts}
use Rattle.clause_sizes.specs.declared.Sizes.{Sizes}
use Rattle.clause_sizes.specs.declared.Measurement.{Measurement}
use Rattle.clause_sizes.specs.Targets.{Dimensioned, Proper, which, last}

-- what is turned down, and the number and values that are then returned: "an automaton handed over as a value that lies outside "The automaton"",
-- then "n outside 1 to 8 or m outside 0 to 4", then of the named acceptance "a yes past m: 4, 0, 0, after 8"
pub data Refuses (a : Automaton) (τ : Target) : Refusal → Option Code → Type 0 where
  outside : ¬ Valid a → Refuses a τ Outside (some (row 4 0 0))
  dimensions : Valid a → ¬ Dimensioned τ → Refuses a τ (Dimensions τ.states τ.sets) (some (row 8 τ.states τ.sets))
  past_sets : Valid a → Dimensioned τ → ¬ OwnSets τ.acceptance τ.sets → Refuses a τ Outside (some (row 4 0 0))

abbrev pub counts_of : ℕ → ℕ → ℕ → Counts
counts_of states sets acceptance = record { states = states; sets = sets; subsets = 2 ^ sets; acceptance = acceptance }

-- for each reference state the set of those that it has path variables to
abbrev pub kept_sets : Automaton → Listing → List ℕ
kept_sets a w = table 16 (λ u. cond (ltb u a.states) (set_of a.states (kept_by (which w) (view a) u)) 0)

abbrev pub measured : Target → (states sets acceptance propositions : ℕ) → Rows → Sizes
measured τ states sets acceptance propositions paths =
    let steps = τ.states * τ.states * 2 ^ propositions in
    record {
      candidate = counts_of τ.states τ.sets τ.acceptance;
      reference = counts_of states sets acceptance;
      letters = 2 ^ propositions;
      steps = steps;
      marks = steps + steps * τ.sets;
      listing = τ.listing;
      paths = paths;
    }

abbrev pub sizes_of : Automaton → Target → Sizes
sizes_of a τ = measured τ a.states a.sets a.acceptance a.propositions (rows_of (kept_sets a τ.listing))

-- what was named for a file of these sizes
abbrev pub target_of : Sizes → Target
target_of z = record { states = z.candidate.states; sets = z.candidate.sets; acceptance = z.candidate.acceptance; listing = z.listing }

-- "Returned (number, a, b)": what is returned, or none where nothing is turned down
abbrev pub returned : Result Measurement Refusal → Option Code
returned (Ok y) = none
returned (Err f) = some (code_of f)

-- what the answer says of the reference and the target
abbrev pub Sizing : Automaton → Target → Result Measurement Refusal → Type 0
Sizing a τ (Ok y) = Valid a × Proper τ × (y.sizes ≡ sizes_of a τ) × (y.last ≡ last a τ)
Sizing a τ (Err f) = Refuses a τ f (returned (Err f))

-- sizes that a file can have
pub record Fitting (z : Sizes) : Type 0 where
  pub n_some : 1 ≤ z.candidate.states
  pub n_le : z.candidate.states ≤ 8
  pub m_le : z.candidate.sets ≤ 4
  pub r_some : 1 ≤ z.reference.states
  pub r_le : z.reference.states ≤ 16
  pub s_le : z.reference.sets ≤ 4
  pub letters_some : 1 ≤ z.letters
  pub letters_le : z.letters ≤ 16
  pub candidate_subsets : z.candidate.subsets ≡ 2 ^ z.candidate.sets
  pub reference_subsets : z.reference.subsets ≡ 2 ^ z.reference.sets
  pub steps_is : z.steps ≡ z.candidate.states * z.candidate.states * z.letters
  pub marks_is : z.marks ≡ z.steps + z.candidate.states * z.candidate.states * z.letters * z.candidate.sets
  pub pairs_le : z.paths.pairs ≤ 256

-- the candidate's counts, or the reference's, with at most so many states
pub record Counting (most : ℕ) (c : Counts) : Type 0 where
  pub some : 1 ≤ c.states
  pub states_le : c.states ≤ most
  pub sets_le : c.sets ≤ 4
  pub subsets_is : c.subsets ≡ 2 ^ c.sets
