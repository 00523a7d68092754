-- What the encoding theorem asks of a task, and that the path variables which the clauses name are then there.
use Rattle.std.specs.Prelude.{◌≡◌, refl, Bool, true, List, [], ℕ, ◌^◌, ◌<◌}
use Rattle.std.proofs.lemmas.Nat.{or_lt}
use Rattle.std.proofs.Common.{pow_pos}
use Rattle.meaning.specs.Automata.{Aut, WellFormed}
use Rattle.meaning.specs.Agreement.{Over}
use Rattle.meaning.specs.Walk.{run}
use Rattle.meaning.specs.MarkSets.{set_of_lt}
use Rattle.encoding.specs.Variables.{Task, step, path, Present}
use Rattle.encoding.specs.Clauses.{marks_on, ◌∪◌}

-- The reference is well-formed; the candidate's acceptance depends on its own sets only; there is a state; and two reference states that lie
-- on one closed walk have their path variables.
pub record WellPosed (T : Task) : Type 0 where
  pub formed : WellFormed T.reference
  pub sets_owned : (S Z : ℕ → Bool) → ((i : ℕ) → i < T.m → S i ≡ Z i) → T.accept S ≡ T.accept Z
  pub some_state : 0 < T.n
  pub cycles_kept : (u v : ℕ) (x y : List ℕ) → u < T.reference.states → Over T.reference.letters x → Over T.reference.letters y
      → run T.reference.step u x ≡ v → run T.reference.step v y ≡ u → T.kept u v ≡ true

module _ {T : Task} (W : WellPosed T) where
  abbrev R : Aut
  R = T.reference

  -- a state of the product, as the empty path from it
  pub node_present : (q u : ℕ) → q < T.n → u < R.states → Present T (path q u q u 0 0)
  node_present q u hq hu = (hq, hu, hq, hu, pow_pos T.m, pow_pos R.sets, W.cycles_kept u u [] [] hu tt tt refl refl)

  -- a path with one transition more
  pub extension_present : (q p t u v l I J K : ℕ) → Present T (path q u p v I J) → Present T (step p l t) → K < 2 ^ T.m
      → T.kept u (R.step v l) ≡ true → Present T (path q u t (R.step v l) (I ∪ K) (J ∪ marks_on R v l))
  extension_present q p t u v l I J K (hq, hu, hp, hv, hI, hJ, k) (hp₂, hl, ht) hK k₂ =
      (hq, hu, ht, W.formed.step_lt v l hv hl, or_lt T.m I K hI hK, or_lt R.sets J (marks_on R v l) hJ (set_of_lt R.sets (R.marks v l)), k₂)
