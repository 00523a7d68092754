-- The test of a value, as the functions of src/ make it. What it means is `Valid`.
use Rattle.std.specs.Prelude.{Bool, not, cond, ◌&&◌, List, ℕ, ◌+◌, ◌*◌, ◌/◌, ◌%◌, ◌^◌, min, ltb, leb, eqb, get_or}
use Rattle.meaning.specs.Tests.{all}
use Rattle.acceptance.specs.Masks.{own_sets}
use Rattle.automaton.specs.declared.Automaton.{Automaton}
use Rattle.automaton.specs.Value.{printable}

-- p holds of every number below n
unfoldable pub passes : ℕ → (ℕ → Bool) → Bool
passes n p = all n p

abbrev pub counts_fit : ℕ → ℕ → ℕ → ℕ → Bool
counts_fit states start propositions sets = leb states 16 && (ltb start states && (leb propositions 4 && leb sets 4))

-- the entry v at i: below c for a state below n and a letter below L, 0 elsewhere
abbrev pub entry_fits : ℕ → ℕ → ℕ → ℕ → ℕ → Bool
entry_fits n L c i v = cond (ltb (i / 16) n) (cond (ltb (i % 16) L) (ltb v c) (eqb v 0)) (eqb v 0)

abbrev pub filled : ℕ → ℕ → ℕ → List ℕ → Bool
filled n L c xs = passes 256 (λ i. entry_fits n L c i (get_or xs i 0))

abbrev pub length_fits : ℕ → ℕ → ℕ → Bool
length_fits k i v = cond (ltb i k) (not (eqb v 0) && leb v 16) (eqb v 0)

abbrev pub lengths_fit : List ℕ → ℕ → Bool
lengths_fit lengths k = passes 4 (λ i. length_fits k i (get_or lengths i 0))

abbrev pub byte_fits : ℕ → ℕ → ℕ → Bool
byte_fits i b n = cond (ltb (i % 16) n) (printable b) (eqb b 0)

abbrev pub bytes_fit : List ℕ → List ℕ → Bool
bytes_fit names lengths = passes 64 (λ i. byte_fits i (get_or names i 0) (get_or lengths (i / 16) 0))

abbrev pub alike : List ℕ → ℕ → ℕ → Bool
alike names i j = passes 16 (λ b. eqb (get_or names (i * 16 + b) 0) (get_or names (j * 16 + b) 0))

abbrev pub clash : List ℕ → ℕ → ℕ → ℕ → Bool
clash names k i j = ltb i j && (ltb j k && alike names i j)

abbrev pub apart : List ℕ → ℕ → Bool
apart names k = passes 16 (λ p. not (clash names k (p / 4) (p % 4)))

abbrev pub named : List ℕ → List ℕ → ℕ → Bool
named names lengths k = lengths_fit lengths k && (bytes_fit names lengths && apart names k)

-- 2 to the k is taken for k up to 4 only: the counts are tested first
abbrev pub tables_fit : Automaton → Bool
tables_fit a =
    filled a.states (2 ^ min a.propositions 4) a.states a.destinations
    && filled a.states (2 ^ min a.propositions 4) (2 ^ min a.sets 4) a.marks

unfoldable pub fits : Automaton → Bool
fits a =
    counts_fit a.states a.start a.propositions a.sets
    && (own_sets a.acceptance a.sets && (tables_fit a && named a.names a.lengths a.propositions))
