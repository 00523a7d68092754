-- The tables of a measured reference fit its sizes, and the clauses made of them are those of its file.
use Rattle.std.specs.Prelude.{◌≡◌, refl, List, ℕ, ◌<◌}
use Rattle.std.proofs.Common.{sym, ap, ◌∙◌, subst}
use Rattle.meaning.specs.Components.{reaches, together}
use Rattle.automaton.specs.declared.Automaton.{Automaton}
use Rattle.automaton.specs.Value.{Valid}
use Rattle.automaton.specs.View.{view}
use Rattle.automaton.specs.ViewLaws.{view_formed}
use Rattle.encoding.specs.Variables.{Var, Present}
use Rattle.encoding.specs.Named.{Listing, first, second, kept_by, task_for, number_for, variables_for}
use Rattle.encoding.proofs.NamedTheorem.{named_well_posed}
use Rattle.encoding.specs.WellPosed.{WellPosed}
use Rattle.clause_sizes.specs.declared.Target.{Target}
use Rattle.clause_sizes.specs.declared.Sizes.{Sizes}
use Rattle.clause_sizes.specs.Targets.{which, named, Proper, task, numbers, last}
use Rattle.clause_sizes.specs.Sizes.{sizes_of, target_of}
use Rattle.clause_sizes.specs.Measured.{Measured}
use Rattle.clause_sizes.specs.Numbers.{Rowed, number_of, last_variable}
use Rattle.clause_sizes.specs.SizedNumbers.{sizes_rowed}
use Rattle.clause_sizes.specs.Limits.{sizes_fit}
use Rattle.clause_list.specs.Tables.{tabled, task_of, Tables}
use Rattle.clause_list.specs.Rows.{numbers_tabled, variables_tabled}

-- which states lie in one component does not depend on the start
kept_anywhere : (w : Listing) (z : Sizes) (start other : ℕ) (destinations marks : List ℕ) (u v : ℕ)
    → kept_by w (tabled z start destinations marks) u v ≡ kept_by w (tabled z other destinations marks) u v
unfolding together reaches
kept_anywhere first z start other destinations marks u v = refl
kept_anywhere second z start other destinations marks u v = refl

tables_fit_lem : {a : Automaton} {τ : Target} → Valid a → Proper τ → Tables (sizes_of a τ) a.destinations a.marks
tables_fit_lem {a} {τ} v t = record {
  fits = sizes_fit v t;
  step_lt = v.destination_lt;
  rowed = λ start.
      subst (Rowed (sizes_of a τ)) (λ i u w. kept_anywhere (which τ.listing) (sizes_of a τ) a.start start a.destinations a.marks u w i) (sizes_rowed τ v);
  marks_lt = v.marks_lt;
}

module _ {a : Automaton} {z : Sizes} (m : Measured a z) where
  pub measured_tables : Tables z a.destinations a.marks
  measured_tables = subst (λ z. Tables z a.destinations a.marks) (sym m.sized) (tables_fit_lem m.valid m.proper)

  pub measured_start : a.start < z.reference.states
  measured_start = subst (λ z. a.start < z.reference.states) (sym m.sized) m.valid.start_lt

  pub measured_view : tabled z a.start a.destinations a.marks ≡ view a
  measured_view = ap (λ y. tabled y a.start a.destinations a.marks) m.sized

  -- the clauses are those of the file for the reference
  pub measured_task : task_of z a.start a.destinations a.marks ≡ task a (target_of z)
  measured_task = ap (λ A. task_for A (named (target_of z))) measured_view

  pub measured_number : (x : Var) → Present (task a (target_of z)) x → number_of z x ≡ numbers a (target_of z) x
  measured_number x h =
      numbers_tabled measured_tables a.start x (subst (λ T. Present T x) (sym measured_task) h) ∙ ap (λ A. number_for A (named (target_of z)) x) measured_view

  pub measured_last : last_variable z ≡ last a (target_of z)
  measured_last = variables_tabled measured_tables a.start ∙ ap (λ A. variables_for A (named (target_of z))) measured_view

  pub measured_posed : WellPosed (task a (target_of z))
  measured_posed = named_well_posed (view a) (named (target_of z)) (view_formed m.valid) m.proper.dimensioned.n_some
