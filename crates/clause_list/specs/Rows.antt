-- What the rows of a file's sizes say where they are those of the reference's tables: which paths there are, and that their numbers are those of the named file.
use Rattle.std.specs.Prelude.{◌≡◌, true, List, ℕ, ◌^◌, ◌<◌}
use Rattle.std.proofs.Common.{ap}
use Rattle.meaning.specs.Automata.{WellFormed}
use Rattle.meaning.specs.BitSet.{has}
use Rattle.meaning.specs.MarkSets.{set_of_same}
use Rattle.encoding.specs.Variables.{Var, path, Present}
use Rattle.encoding.specs.Named.{number_for, variables_for}
use Rattle.encoding.proofs.NamedTheorem.{named_well_posed}
use Rattle.encoding.specs.WellPosed.{WellPosed, node_present}
use Rattle.clause_sizes.specs.declared.Sizes.{Sizes}
use Rattle.clause_sizes.specs.Sizes.{target_of}
use Rattle.clause_sizes.specs.Targets.{named}
use Rattle.clause_sizes.specs.Numbers.{kept_among, InFile, number_of, last_variable}
use Rattle.clause_sizes.specs.SizedNumbers.{row_within, present_in, numbers_are, variables_are}
use Rattle.clause_list.specs.Tables.{NodePaths, tabled, task_of, Tables}

module _ {z : Sizes} {destinations marks : List ℕ} (tables : Tables z destinations marks) where
  module _ {start : ℕ} (h : start < z.reference.states) where
    pub tables_formed : WellFormed (tabled z start destinations marks)
    tables_formed = record {
      start_lt = h;
      step_lt = tables.step_lt;
      sets_owned = λ S T e. ap (has z.reference.acceptance) (set_of_same z.reference.sets S T e);
    }

    pub tables_posed : WellPosed (task_of z start destinations marks)
    tables_posed = named_well_posed (tabled z start destinations marks) (named (target_of z)) tables_formed tables.fits.n_some

  module _ (start : ℕ) where
    pub numbers_tabled : (x : Var) → Present (task_of z start destinations marks) x → number_of z x ≡ number_for (tabled z start destinations marks) (named (target_of z)) x
    numbers_tabled = numbers_are z start _ _ _ (tables.rowed start)

    pub variables_tabled : last_variable z ≡ variables_for (tabled z start destinations marks) (named (target_of z))
    variables_tabled = variables_are z start _ _ _ (tables.rowed start)

    pub there_in : (x : Var) → Present (task_of z start destinations marks) x → InFile z x
    there_in = present_in z start _ _ _ (tables.rowed start)

  -- between states of one row there are paths
  pub kept_path : {q u p v I J : ℕ} → q < z.candidate.states → u < z.reference.states → p < z.candidate.states → v < z.reference.states
      → I < 2 ^ z.candidate.sets → J < 2 ^ z.reference.sets → kept_among z u v ≡ true → InFile z (path q u p v I J)
  kept_path {u} hq hu hp hv hI hJ k = ((hq, hu, hp, hv, hI, hJ, k), row_within z 0 _ _ _ (tables.rowed 0) u hu)

  -- a state is in its own row, so that its empty paths are always there
  pub node_paths : NodePaths z
  node_paths q u hq hu = there_in 0 (path q u q u 0 0) (node_present (tables_posed {start = 0} tables.fits.r_some) q u hq hu)
