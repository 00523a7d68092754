-- A value in "The automaton" is well formed, and two of them over the same propositions can be compared; what Inf of all sets says.
use Rattle.std.specs.Prelude.{◌≡◌, ◌^◌}
use Rattle.std.proofs.Common.{ap, ◌∙◌}
use Rattle.meaning.specs.BitSet.{has, set_of}
use Rattle.meaning.proofs.AllLaws.{all_same}
use Rattle.meaning.specs.MarkSets.{set_of_lt, set_of_same, has_set_of}
use Rattle.meaning.specs.Automata.{WellFormed, EverySet}
use Rattle.meaning.specs.Agreement.{Comparable}
use Rattle.acceptance.specs.Masks.{every_set}
use Rattle.acceptance.specs.Laws.{every_set_is, every_set_has}
use Rattle.automaton.specs.declared.Automaton.{Automaton}
use Rattle.automaton.specs.Value.{Valid}
use Rattle.automaton.specs.View.{view}

-- Inf of all sets: "a run is accepting if every set is met infinitely often"
pub view_every : {a : Automaton} → Valid a → a.acceptance ≡ every_set a.sets → EverySet (view a)
unfolding EverySet
view_every {a} v e S =
    let K = set_of a.sets S in
    ap (λ mask. has mask K) (every_set_is v.sets_le e) ∙ every_set_has a.sets K (set_of_lt a.sets S) ∙ all_same a.sets (has K) S (has_set_of a.sets S)

pub view_formed : {a : Automaton} → Valid a → WellFormed (view a)
view_formed {a} v = record {
  start_lt = v.start_lt;
  step_lt = v.destination_lt;
  sets_owned = λ S T e. ap (has a.acceptance) (set_of_same a.sets S T e);
}

pub view_comparable : {a b : Automaton} → Valid a → Valid b → a.propositions ≡ b.propositions → Comparable (view a) (view b)
view_comparable v w e = record { formed_A = view_formed v; formed_B = view_formed w; same_letters = ap (λ k. 2 ^ k) e }
