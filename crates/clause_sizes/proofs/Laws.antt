-- The sizes as the code makes them.
use mathlib.Core.Path.{◌≡◌, sym, ap, ◌∙◌, subst}
use mathlib.Core.List.{List}
use Prim.Native.Nat.{ℕ, ◌+◌, ◌*◌, ◌^◌, ◌≤◌, min}
use Rattle.bits.specs.Powers.{power_is}
use Rattle.automaton.specs.declared.Automaton.{Automaton}
use Rattle.automaton.specs.Value.{Valid}
use Rattle.clause_rows.specs.declared.Rows.{Rows}
use Rattle.clause_rows.specs.Rows.{rows_of}
use Rattle.clause_sizes.specs.declared.Target.{Target}
use Rattle.clause_sizes.specs.declared.Sizes.{Sizes}
use Rattle.clause_sizes.specs.Targets.{Proper, last}
use Rattle.clause_sizes.specs.Sizes.{Fitting, kept_sets, measured, sizes_of}
use Rattle.clause_sizes.specs.Numbers.{LastIfAny, last_variable}
use Rattle.clause_sizes.specs.Limits.{sizes_fit, file_variables}

pub measured_is : {τ : Target} {states sets acceptance propositions L M S : ℕ} {paths : Rows} → τ.sets ≤ 4 → sets ≤ 4 → propositions ≤ 4
    → L ≡ 2 ^ min propositions 4 → M ≡ 2 ^ min τ.sets 4 → S ≡ 2 ^ min sets 4
    → ◌≡◌ {A = Sizes}
    (record {
      candidate = record { states = τ.states; sets = τ.sets; subsets = M; acceptance = τ.acceptance };
      reference = record { states = states; sets = sets; subsets = S; acceptance = acceptance };
      letters = L;
      steps = τ.states * τ.states * L;
      marks = τ.states * τ.states * L + τ.states * τ.states * L * τ.sets;
      listing = τ.listing;
      paths = paths;
    })
    (measured τ states sets acceptance propositions paths)
measured_is hm hs hp eL eM eS = rw (power_is hp eL, power_is hm eM, power_is hs eS)

pub fits_so : {a : Automaton} {τ : Target} {sets : List ℕ} {paths : Rows} {z : Sizes} {k : ℕ} → Valid a → Proper τ → sets ≡ kept_sets a τ.listing → paths ≡ rows_of sets
    → z ≡ measured τ a.states a.sets a.acceptance a.propositions paths → LastIfAny z k → Valid a × Proper τ × (z ≡ sizes_of a τ) × (k ≡ last a τ)
fits_so {a} {τ} v t es ep ez l =
    let e = ez ∙ ap (measured τ a.states a.sets a.acceptance a.propositions) (ep ∙ ap rows_of es) in
    (v, t, e, l.there (subst Fitting (sym e) (sizes_fit v t)) ∙ ap last_variable e ∙ file_variables τ v)
