-- DEFINITION: the table that an assignment decodes to, as a value. Document 01, "Solver text" and row 11 of "What is turned down", whose
-- words stand in quotes.
use Rattle.std.specs.Prelude.{◌≡◌, ◌⊎◌, true, ◌&&◌, cond, ℕ, ◌<◌, ltb}
use Rattle.meaning.specs.Automata.{Aut}
use Rattle.automaton.specs.declared.Automaton.{Automaton}
use Rattle.automaton.specs.Value.{rows, letters}
use Rattle.encoding.specs.Variables.{step}
use Rattle.encoding.specs.Clauses.{Assignment, marks_on, decoded}
use Rattle.clause_sizes.specs.declared.Target.{Target}
use Rattle.clause_sizes.specs.Targets.{task, numbers}

-- ---- an automaton of `meaning` as a value

-- what f says of a state and a letter of C; 0 where there is no such state or letter
abbrev pub entry : Aut → (ℕ → ℕ → ℕ) → ℕ → ℕ → ℕ
entry C f q l = cond (ltb q C.states && ltb l C.letters) (f q l) 0

-- with the propositions of the reference: "proposition names are the reference's"; and with the acceptance that was named
abbrev pub value_of : Automaton → Target → Aut → Automaton
value_of a τ C = record {
  states = C.states;
  start = C.start;
  propositions = a.propositions;
  sets = C.sets;
  acceptance = τ.acceptance;
  lengths = a.lengths;
  names = a.names;
  destinations = rows 16 (entry C C.step);
  marks = rows 16 (entry C (marks_on C));
}

-- ---- what is decoded

-- "Decoding takes for each state and letter the lowest p whose step is true, with its marks." The definition of `encoding`, with the numbers
-- of the file for the reference and the target.
abbrev pub decoded_table : Automaton → Target → Assignment → Aut
decoded_table a τ ν = decoded (task a τ) (numbers a τ) ν

abbrev pub decoded_value : Automaton → Target → Assignment → Automaton
decoded_value a τ ν = value_of a τ (decoded_table a τ ν)

-- ---- "no true step, lowest"

module _ (a : Automaton) (τ : Target) (ν : Assignment) where
  -- q has a true step by l
  abbrev pub Steps : ℕ → ℕ → Type 0
  Steps q l = (p : ℕ) × (p < τ.states) × (ν (numbers a τ (step q l p)) ≡ true)

  abbrev pub AllStep : Type 0
  AllStep = (q l : ℕ) → q < τ.states → l < letters a → Steps q l

  -- q and l are the lowest that have none: q is the lowest such state, and l its lowest such letter
  pub record LowestWithout (q l : ℕ) : Type 0 where
    pub state_lt : q < τ.states
    pub letter_lt : l < letters a
    pub no_step : ¬ Steps q l
    pub before : (p j : ℕ) → j < letters a → (p < q) ⊎ ((p ≡ q) × (j < l)) → Steps p j
