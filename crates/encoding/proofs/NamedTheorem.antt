-- THE FILE THAT THE CALLER NAMES: the theorem for it, and that steps and marks come first.
use Rattle.std.specs.Prelude.{◌≡◌, true, List, ℕ, ◌≤◌, ◌<◌}
use Rattle.std.proofs.Math.Path.{refl}
use Rattle.std.proofs.Common.{ap, arith}
use Rattle.meaning.specs.Automata.{Aut, WellFormed}
use Rattle.meaning.specs.Agreement.{Over}
use Rattle.meaning.specs.Walk.{run}
use Rattle.meaning.proofs.ComponentLaws.{closed_together}
use Rattle.meaning.specs.BitSet.{has}
use Rattle.meaning.specs.MarkSets.{set_of_same}
use Rattle.encoding.specs.Variables.{Task, mark, Present}
use Rattle.encoding.specs.Named.{Named, Listing, first, second, kept_by, KindFor, task_for, marks_for, number_for, table_variables_for, variables_for}
use Rattle.encoding.specs.WellPosed.{WellPosed}
use Rattle.encoding.specs.Numbering.{MarkLaws}
use Rattle.encoding.specs.Blocks.{transition_marks_laws}
use Rattle.encoding.specs.Theorem.{Encodes}
use Rattle.encoding.proofs.EncodingTheorem.{encodes}
use Rattle.encoding.specs.NamedFile.{named_numbering}

-- ---- what depends on the list

module _ (R : Aut) (n m acceptance : ℕ) where
  -- a closed walk of the reference stays in one component, so the second list loses nothing
  cycles_by : WellFormed R → (w : Listing) (u v : ℕ) (x y : List ℕ) → u < R.states → Over R.letters x → Over R.letters y → run R.step u x ≡ v → run R.step v y ≡ u
      → kept_by w R u v ≡ true
  cycles_by F first u v x y hu ox oy ex ey = refl
  cycles_by F second u v x y hu ox oy ex ey = closed_together R F u v x y hu ox oy ex ey

-- ---- the named file

module _ (R : Aut) (t : Named) where
  abbrev n : ℕ
  n = t.n

  abbrev m : ℕ
  m = t.m

  abbrev T : Task
  T = task_for R t

  abbrev marks : MarkLaws T (marks_for R t) (KindFor t)
  marks = transition_marks_laws T

  pub mark_first : (q l i p : ℕ) → Present (task_for R t) (mark q l i p) → number_for R t (mark q l i p) ≤ table_variables_for R t
  mark_first q l i p h = omega (arith, marks.place_lt q l i p h)

  -- THE THEOREM
  pub named_well_posed : WellFormed R → 0 < n → WellPosed (task_for R t)
  named_well_posed F some = record { formed = F; sets_owned = λ S T e. ap (has t.acceptance) (set_of_same m S T e); some_state = some; cycles_kept = cycles_by R n m t.acceptance F t.listing }

  pub named_encodes : WellFormed R → 0 < n → Encodes (task_for R t) (number_for R t) (variables_for R t) (KindFor t)
  named_encodes F some = encodes (named_well_posed F some) (named_numbering R t)
