-- DEFINITIONS: what a value of the type `Automaton` holds, and which values lie in document 01's "The automaton".
use Rattle.std.specs.Prelude.{◌≡◌, ◌≢◌, ◌⊎◌, Bool, not, ◌&&◌, List, [], ◌∷◌, ℕ, ◌+◌, ◌*◌, ◌/◌, ◌%◌, ◌^◌, ◌≤◌, ◌<◌, leb, eqb, length, get_or, take, drop, replicate}
use Rattle.meaning.specs.Counting.{each}
use Rattle.acceptance.specs.Masks.{OwnSets}
use Rattle.automaton.specs.declared.Automaton.{Automaton}

-- ---- arrays

-- the numbers f 0, f 1, .., n of them
abbrev pub table : ℕ → (ℕ → ℕ) → List ℕ
table n f = each n (λ i. f i ∷ [])

-- n rows of 16
abbrev pub rows : ℕ → (ℕ → ℕ → ℕ) → List ℕ
rows n f = table (n * 16) (λ i. f (i / 16) (i % 16))

-- ---- what a value holds

-- "letters L = 2^k"
abbrev pub letters : Automaton → ℕ
letters a = 2 ^ a.propositions

-- "Each state and letter has one transition, with a destination and a set of marks", here as a number: bit i for the set i
abbrev pub destination : Automaton → ℕ → ℕ → ℕ
destination a q l = get_or a.destinations (q * 16 + l) 0

abbrev pub mark_set : Automaton → ℕ → ℕ → ℕ
mark_set a q l = get_or a.marks (q * 16 + l) 0

-- proposition i has the first bytes of the slot i for its name
abbrev pub name_length : Automaton → ℕ → ℕ
name_length a i = get_or a.lengths i 0

abbrev pub name_byte : Automaton → ℕ → ℕ → ℕ
name_byte a i j = get_or a.names (i * 16 + j) 0

abbrev pub name : Automaton → ℕ → List ℕ
name a i = take (name_length a i) (drop (i * 16) a.names)

abbrev pub empty : Automaton
empty = record {
  states = 0;
  start = 0;
  propositions = 0;
  sets = 0;
  acceptance = 0;
  lengths = replicate 4 0;
  names = replicate 64 0;
  destinations = replicate 256 0;
  marks = replicate 256 0;
}

-- ---- "The automaton"

-- "32 to 126 without quote and backslash", as a test and as a fact
abbrev pub printable : ℕ → Bool
printable b = leb 32 b && (leb b 126 && (not (eqb b 34) && not (eqb b 92)))

pub record NameByte (b : ℕ) : Type 0 where
  pub from_32 : 32 ≤ b
  pub to_126 : b ≤ 126
  pub no_quote : b ≢ 34
  pub no_backslash : b ≢ 92

-- q is no state of the automaton, or l no letter
abbrev pub Unused : Automaton → ℕ → ℕ → Type 0
Unused a q l = (a.states ≤ q) ⊎ (letters a ≤ l)

-- the value lies in "The automaton", and its names are such as HOA can give
pub record Valid (a : Automaton) : Type 0 where
  -- "r states (1 to 16), s sets (0 to 4)", "Propositions k: 0 to 4"; the start is a state, so there is one
  pub states_le : a.states ≤ 16
  pub start_lt : a.start < a.states
  pub propositions_le : a.propositions ≤ 4
  pub sets_le : a.sets ≤ 4
  -- "its acceptance as the yes or no for each set of marks (no past its sets, else 4)"
  pub sets_owned : OwnSets a.acceptance a.sets
  -- destinations are states, and marks are sets that there are
  pub destination_lt : (q l : ℕ) → q < a.states → l < letters a → destination a q l < a.states
  pub marks_lt : (q l : ℕ) → q < a.states → l < letters a → mark_set a q l < 2 ^ a.sets
  -- "Proposition names have 1 to 16 bytes"; "two names alike" are turned down
  pub name_some : (i : ℕ) → i < a.propositions → 1 ≤ name_length a i
  pub name_le : (i : ℕ) → i < a.propositions → name_length a i ≤ 16
  pub name_bytes : (i j : ℕ) → i < a.propositions → j < name_length a i → NameByte (name_byte a i j)
  pub no_two_alike : (i j : ℕ) → i < j → j < a.propositions → name a i ≢ name a j
  -- slots that are not in use are 0
  pub no_destination : (q l : ℕ) → q < 16 → l < 16 → Unused a q l → destination a q l ≡ 0
  pub no_marks : (q l : ℕ) → q < 16 → l < 16 → Unused a q l → mark_set a q l ≡ 0
  pub no_length : (i : ℕ) → i < 4 → a.propositions ≤ i → name_length a i ≡ 0
  pub no_byte : (i j : ℕ) → i < 4 → j < 16 → name_length a i ≤ j → name_byte a i j ≡ 0
  -- the arrays have the lengths that the type gives them
  pub lengths_size : length a.lengths ≡ 4
  pub names_size : length a.names ≡ 64
  pub destinations_size : length a.destinations ≡ 256
  pub marks_size : length a.marks ≡ 256
