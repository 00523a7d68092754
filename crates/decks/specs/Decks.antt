-- THE KNOWN DECKS of document 01 that are marked P, as one table under one theorem. Its sentences stand in quotes.
use Rattle.std.specs.Prelude.{◌≡◌, Ok, ◌++◌, ◌≤◌}
use Rattle.std.proofs.Math.Option.{none}
use Rattle.automaton.specs.declared.Automaton.{Automaton}
use Rattle.refusals.specs.Refused.{row}
use Rattle.automaton.specs.Value.{Valid}
use Rattle.encoding.specs.Clauses.{Satisfies, destination}
use Rattle.decode.specs.declared.Decoded.TheVariants.{Table}
use Rattle.automaton.specs.Bytes.{bytes}
use Rattle.clause_sizes.specs.declared.Target.{Target}
use Rattle.clause_sizes.specs.Targets.{every, Proper, last, task, numbers, file}
use Rattle.decks.specs.Words.{ReadAs, HoaTextRefused, Counts, Satisfiable, Prints, Stating, DecodedAs, DecoderRefuses, SolverTextRefused}

-- ---- the statement

-- "arguments 1 and 0 (n, m): the clause program prints, header first, `p cnf 3 6`, `1 0`, `2 0`, `-2 -1 2 0`, `-2 -1 2 0`, `-3 -1 3 0`, `-2 -1 0`.
-- Unsatisfiable. After the header each line is literals and a closing 0."
pub record FirstDeck (a : Automaton) : Type 0 where
  pub prints : Prints a (every 1 0) (bytes "p cnf 3 6\n1 0\n2 0\n-2 -1 2 0\n-2 -1 2 0\n-3 -1 3 0\n-2 -1 0\n")
  pub unsatisfiable : ¬ Satisfiable a (every 1 0)

-- "n = 1, m = 0: 2 variables, 4 clauses, satisfiable."
pub record AllRuns (a : Automaton) : Type 0 where
  pub counts : Counts a (every 1 0) 2 4
  pub satisfiable : Satisfiable a (every 1 0)
  -- "Then `s SATISFIABLE`, LF, and `v 1 2 0` is accepted": it states an assignment that satisfies the file, and the decoder answers the table
  -- of it, which is the reference again
  pub states : Stating a (every 1 0) (bytes "s SATISFIABLE\nv 1 2 0") (λ ν. Satisfies ν (file a (every 1 0)))
  pub accepted : DecodedAs a (every 1 0) (bytes "s SATISFIABLE\nv 1 2 0") (Ok (Table a)) none
  -- "`v -1 2 0`: 11,0,0": it states an assignment in which no p below 1 is where the state 0 goes by the letter 0
  pub states_no_step : Stating a (every 1 0) (bytes "s SATISFIABLE\nv -1 2 0") (λ ν. destination (task a (every 1 0)) (numbers a (every 1 0)) ν 0 0 ≡ 1)
  pub no_step : DecoderRefuses a (every 1 0) (bytes "s SATISFIABLE\nv -1 2 0") (row 11 0 0)
  -- "`v 1 3 0` and `v 1 1 0`: 10,18,0"
  pub past_last : SolverTextRefused a (every 1 0) (bytes "s SATISFIABLE\nv 1 3 0") (row 10 18 0)
  pub given_twice : SolverTextRefused a (every 1 0) (bytes "s SATISFIABLE\nv 1 1 0") (row 10 18 0)

-- "(1,1): 16 variables, 103 clauses, none. (2,1): 64, 657, some. (1,2): 28, 391, some."
pub record BothForEver (a : Automaton) : Type 0 where
  pub counts_one_one : Counts a (every 1 1) 16 103
  pub none_one_one : ¬ Satisfiable a (every 1 1)
  pub counts_two_one : Counts a (every 2 1) 64 657
  pub some_two_one : Satisfiable a (every 2 1)
  pub counts_one_two : Counts a (every 1 2) 28 391
  pub some_one_two : Satisfiable a (every 1 2)

-- "Largest sizes: V = 4,199,424."
pub record LargestSizes : Type 0 where
  -- no file has more variables
  pub at_most : (a : Automaton) (τ : Target) → Valid a → Proper τ → last a τ ≤ 4_199_424
  -- r = 16, k = 4, s = 4, n = 8, m = 4 gives so many, and there is such a reference
  pub met : (a : Automaton) → a.states ≡ 16 → a.propositions ≡ 4 → a.sets ≡ 4 → last a (every 8 4) ≡ 4_199_424
  pub reference : (a : Automaton) × Valid a × (a.states ≡ 16) × (a.propositions ≡ 4) × (a.sets ≡ 4)

-- the table, in document 01's order
pub record KnownDecks : Type 0 where
  -- "`HOA: v1 .. --END--` on standard input"
  pub first_deck : ReadAs (bytes "HOA: v1 States: 1 Start: 0 Acceptance: 1 Inf(0) --BODY-- State: 0 [t] 0 --END--") FirstDeck
  -- "Acceptance `0 t`, one state, k = 0"
  pub all_runs : ReadAs (bytes "HOA: v1 States: 1 Start: 0 Acceptance: 0 t --BODY-- State: 0 [t] 0 --END--") AllRuns
  -- ""a and b both for ever": one state, s = 2, letters 1 {0}, 2 {1}, 3 {0 1}"
  pub both_for_ever : ReadAs
      (bytes "HOA: v1 States: 1 Start: 0 AP: 2 \"a\" \"b\" Acceptance: 2 Inf(0)&Inf(1) "
      ++ bytes "--BODY-- State: 0 [!0&!1] 0 [0&!1] 0 {0} [!0&1] 0 {1} [0&1] 0 {0 1} --END--")
      BothForEver
  pub largest_sizes : LargestSizes
  -- "k = 1, only `[0]`: 7,0,0."
  pub no_edge : HoaTextRefused (bytes "HOA: v1 States: 1 Start: 0 AP: 1 \"a\" Acceptance: 0 t --BODY-- State: 0 [0] 0 --END--") (row 7 0 0)
  -- "`[0]` then `[t]`: 6,0,1."
  pub second_edge : HoaTextRefused (bytes "HOA: v1 States: 1 Start: 0 AP: 1 \"a\" Acceptance: 0 t --BODY-- State: 0 [0] 0 [t] 0 --END--") (row 6 0 1)
