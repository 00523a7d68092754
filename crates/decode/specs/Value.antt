-- THE VALUE THAT IS DECODED lies in "The automaton", and its view is the table that `encoding` decodes. It depends on the step and mark
-- variables only.
use Rattle.std.specs.Prelude.{◌≡◌, refl}
use Rattle.std.proofs.Common.{sym, ap, ◌∙◌, subst, arith}
use Rattle.std.proofs.Math.Bool.{Bool}
use Prim.Native.Nat.{ℕ, ◌≤◌, ◌<◌}
use Rattle.meaning.specs.Automata.{Aut}
use Rattle.meaning.specs.BitSet.{has}
use Rattle.meaning.specs.MarkSets.{set_of_lt, has_set_of, set_of_same}
use Rattle.automaton.specs.declared.Automaton.{Automaton}
use Rattle.automaton.specs.Value.{Valid, letters, mark_set}
use Rattle.automaton.specs.Value.{destination as destinationOf}
use Rattle.automaton.specs.View.{view}
use Rattle.automaton.specs.Letters.{letters_le}
use Rattle.automaton.specs.Rows.{rows_length, rows_at}
use Rattle.encoding.specs.Variables.{step, mark}
use Rattle.encoding.specs.NamedFile.{step_first}
use Rattle.encoding.proofs.NamedTheorem.{mark_first}
use Rattle.encoding.specs.Clauses.{Assignment, lowest, destination, marks_on, SameTable}
use Rattle.encoding.specs.Lowest.{lowest_true, lowest_same, lowest_passes}
use Rattle.clause_sizes.specs.declared.Target.{Target}
use Rattle.clause_sizes.specs.Targets.{Proper, numbers, kept, named}
use Rattle.decode.specs.Table.{entry, decoded_table, decoded_value, Steps, AllStep}
use Rattle.decode.specs.Entries.{entry_used, entry_unused, entries_equal}

-- ---- the steps

module _ (a : Automaton) (τ : Target) (ν : Assignment) where
  -- there is a true step if and only if the decoded one leads to a state
  pub steps_lead : (q l : ℕ) → Steps a τ ν q l → (decoded_table a τ ν).step q l < τ.states
  unfolding destination
  steps_lead q l (p, h, e) = (lowest_true τ.states (λ p. ν (numbers a τ (step q l p))) p h e).0

  pub lead_steps : (q l : ℕ) → (decoded_table a τ ν).step q l < τ.states → Steps a τ ν q l
  unfolding destination
  lead_steps q l h = let f : ℕ → Bool = λ p. ν (numbers a τ (step q l p)) in (lowest τ.states f, h, lowest_passes τ.states f h)

-- ---- the value

module _ {a : Automaton} {τ : Target} (v : Valid a) (z : Proper τ) (ν : Assignment) (t : AllStep a τ ν) where
  abbrev C : Aut
  C = decoded_table a τ ν

  abbrev value : Automaton
  value = decoded_value a τ ν

  destination_is : (q l : ℕ) → q < τ.states → l < letters a → destinationOf value q l ≡ C.step q l
  destination_is q l hq hl = rows_at 16 (entry C C.step) q l (omega (arith, z.dimensioned.n_le)) (omega (arith, letters_le v)) ∙ entry_used C C.step q l hq hl

  marks_is : (q l : ℕ) → q < τ.states → l < letters a → mark_set value q l ≡ marks_on C q l
  marks_is q l hq hl = rows_at 16 (entry C (marks_on C)) q l (omega (arith, z.dimensioned.n_le)) (omega (arith, letters_le v)) ∙ entry_used C (marks_on C) q l hq hl

  pub decoded_valid : Valid (decoded_value a τ ν)
  decoded_valid = record {
    states_le = omega (arith, z.dimensioned.n_le);
    start_lt = z.dimensioned.n_some;
    propositions_le = v.propositions_le;
    sets_le = z.dimensioned.m_le;
    sets_owned = z.sets_owned;
    destination_lt = λ q l hq hl. subst (λ p. p < τ.states) (sym (destination_is q l hq hl)) (steps_lead a τ ν q l (t q l hq hl));
    marks_lt = λ q l hq hl. omega (arith, marks_is q l hq hl, set_of_lt τ.sets (C.marks q l));
    name_some = v.name_some;
    name_le = v.name_le;
    name_bytes = v.name_bytes;
    no_two_alike = v.no_two_alike;
    no_destination = λ q l hq hl u. rows_at 16 (entry C C.step) q l hq hl ∙ entry_unused C C.step q l u;
    no_marks = λ q l hq hl u. rows_at 16 (entry C (marks_on C)) q l hq hl ∙ entry_unused C (marks_on C) q l u;
    no_length = v.no_length;
    no_byte = v.no_byte;
    lengths_size = v.lengths_size;
    names_size = v.names_size;
    destinations_size = rows_length 16 (entry C C.step);
    marks_size = rows_length 16 (entry C (marks_on C));
  }

  pub decoded_view : SameTable (view (decoded_value a τ ν)) (decoded_table a τ ν)
  decoded_view = record {
    states = refl;
    letters = refl;
    sets = refl;
    start = refl;
    step = destination_is;
    marks = λ q l i hq hl hi. ap (λ s. has s i) (marks_is q l hq hl) ∙ has_set_of τ.sets (C.marks q l) i hi;
    accept = λ S. refl;
  }

-- ---- step and mark variables decide

module _ (a : Automaton) (τ : Target) (ν ξ : Assignment) (same : (k : ℕ) → 0 < k → k ≤ kept a τ → ν k ≡ ξ k) where
  step_same : (q l p : ℕ) → q < τ.states → l < letters a → p < τ.states → ν (numbers a τ (step q l p)) ≡ ξ (numbers a τ (step q l p))
  step_same q l p hq hl hp = same _ (omega arith) (step_first (view a) (named τ) q l p (hq, hl, hp))

  destination_same : (q l : ℕ) → q < τ.states → l < letters a → (decoded_table a τ ν).step q l ≡ (decoded_table a τ ξ).step q l
  unfolding destination
  destination_same q l hq hl = lowest_same τ.states _ _ (λ p hp. step_same q l p hq hl hp)

  pub steps_same : (q l : ℕ) → q < τ.states → l < letters a → Steps a τ ν q l → Steps a τ ξ q l
  steps_same q l hq hl (p, hp, e) = (p, hp, sym (step_same q l p hq hl hp) ∙ e)

  pub all_step_same : AllStep a τ ν → AllStep a τ ξ
  all_step_same t q l hq hl = steps_same q l hq hl (t q l hq hl)

  pub decoded_same_value : AllStep a τ ν → decoded_value a τ ν ≡ decoded_value a τ ξ
  decoded_same_value t =
      let A : Aut = decoded_table a τ ν in
      let B : Aut = decoded_table a τ ξ in
      let marks : (q l : ℕ) → q < τ.states → l < letters a → marks_on A q l ≡ marks_on B q l = λ q l hq hl.
      set_of_same τ.sets (A.marks q l) (B.marks q l) (λ i hi.
      same _ (omega arith) (mark_first (view a) (named τ) q l i (A.step q l) (hq, hl, hi, steps_lead a τ ν q l (t q l hq hl)))
      ∙ ap (λ p. ξ (numbers a τ (mark q l i p))) (destination_same q l hq hl)) in
      let d = entries_equal A B A.step B.step refl refl destination_same in
      let s = entries_equal A B (marks_on A) (marks_on B) refl refl marks in
      λ i. record {
        states = τ.states;
        start = 0;
        propositions = a.propositions;
        sets = τ.sets;
        acceptance = τ.acceptance;
        lengths = a.lengths;
        names = a.names;
        destinations = d i;
        marks = s i;
      }
