-- DEMAND 3, stated and proved: what the clause file of a reference and a target says, over every list of calls, every satisfying assignment, every text that states
-- one, and every automaton that agrees. Sentences in quotes are document 01's, most of them from "The words of demand 3".
--
-- Of its clause c, field 1 shuts out a clause step whose first call alone is true and "ended" before clause C, field 2 a C with no list behind it, and fields
-- 3 to 5 a list of one impossible clause and the same list for every reference.
use Rattle.std.specs.Prelude.{◌≡◌, ◌↔◌, Result, Ok, Err, List, ℕ, ◌+◌, ◌*◌, ◌^◌, ◌≤◌, ◌<◌, length}
use Rattle.std.proofs.Math.Option.{none, some}
use Rattle.automaton.specs.declared.Automaton.{Automaton}
use Rattle.refusals.specs.declared.Refusal.{Refusal}
use Rattle.refusals.specs.declared.Refusal.TheVariants.{Short}
use Rattle.refusals.specs.Refused.{row}
use Rattle.automaton.specs.Value.{letters}
use Rattle.encoding.specs.Clauses.{Assignment, Satisfies, group₄}
use Rattle.encoding.specs.Variables.{step, mark, path, sharing}
use Rattle.compare.specs.Compared.{prefix_room, loop_room}
use Rattle.clause_sizes.specs.declared.Listing.TheVariants.{First}
use Rattle.clause_sizes.specs.declared.Target.{Target}
use Rattle.clause_sizes.specs.Targets.{task, numbers, last, kept, file}
use Rattle.clause_header.specs.declared.Totals.{Totals}
use Rattle.clause_header.specs.Header.{Headed}
use Rattle.clause_step.specs.Step.{fresh_position}
use Rattle.clause_step.specs.Calls.{Call, Calls, HandsOut}
use Rattle.clause_text.specs.Batches.{TextCall, TextCalls, LinesOut}
use Rattle.solver_text.specs.declared.Reader.{Reader}
use Rattle.solver_text.specs.declared.Reply.{Reply}
use Rattle.solver_agreement.specs.Assignment.{States}
use Rattle.solver_text.specs.Machine.{fresh}
use Rattle.solver_text.specs.Calls.{Reads, Ends, joined}
use Rattle.decode.specs.declared.Decoded.{Decoded}
use Rattle.decode.specs.declared.Decoded.TheVariants.{Table}
use Rattle.decode.specs.Answers.{Untouched, Decodes}
use Rattle.decode.specs.Found.{Found}
use Rattle.decode.specs.Table.{decoded_value}

-- ---- the statement

-- "A fresh reader of solver text has read nothing; its own state goes likewise from piece to piece, empty ones too, to the end, and the decoder takes what
-- it then holds." The decoder ends the text; where the caller has ended it before, that changes nothing.
pub data Held (reference : Automaton) (τ : Target) (pieces : List (List ℕ)) : Reader → Type 0 where
  read : {r : Reader} → Reads reference τ fresh pieces r → Held reference τ pieces r
  ended : {r : Reader} {e : Reply} → Reads reference τ fresh pieces r → Ends reference τ r e → Held reference τ pieces e.reader

-- the decoder answers C, or 13 where a buffer is short, and leaves both buffers as they were
pub record Delivers (C : Automaton) (prefix prefix-after loop loop-after : List ℕ) (answer : Result Decoded Refusal) : Type 0 where
  pub table : prefix_room ≤ length prefix → loop_room ≤ length loop → Untouched prefix prefix-after loop loop-after answer (Ok (Table C)) none
  pub short_prefix : length prefix < prefix_room
      → Untouched prefix prefix-after loop loop-after answer (Err (Short prefix_room (length prefix))) (some (row 13 prefix_room (length prefix)))
  pub short_loop : prefix_room ≤ length prefix → length loop < loop_room
      → Untouched prefix prefix-after loop loop-after answer (Err (Short loop_room (length loop))) (some (row 13 loop_room (length loop)))

pub record Demand3 (reference : Automaton) (τ : Target) : Type 0 where
  -- 1. "A fresh clause step stands before clause 1. Each call gets the same reference, n and m, .. a buffer of any length and the state as the call before it,
  -- refused or not, left it." The calls that are not refused hand out the clauses of the file in order, one each, and then "ended" again and again; a refused
  -- call keeps the position and the buffer.
  pub clauses : (cs : List Call) → Calls reference τ fresh_position cs → HandsOut reference τ cs
  -- The same file as text, one line a call or as many as the buffer holds, in any order.
  pub lines : (cs : List TextCall) → TextCalls reference τ fresh_position cs → LinesOut reference τ cs
  -- 2. "The header is `p cnf V C`": the last variable and the number of clauses.
  pub header : (r : Result Totals Refusal) → Headed reference τ r → r ≡ Ok (record { variables = last reference τ; clauses = length (file reference τ) })
  -- "C counted beforehand: nL + (1 + nnrL) + n³rrL·2^m·2^s·2^m + the length of group 4"; in the second list "C is counted anew", with those u, v and l in place of all rrL "only if u, v
  -- and w share a component"
  pub count : let n = τ.states in
      let m = τ.sets in
      length (file reference τ)
      ≡ n * letters reference + (1 + n * n * reference.states * letters reference)
      + n * n * n * sharing (task reference τ) * 2 ^ m * 2 ^ reference.sets * 2 ^ m
      + length (group₄ (task reference τ) (numbers reference τ))
  pub count_first : τ.listing ≡ First → sharing (task reference τ) ≡ reference.states * reference.states * letters reference
  -- "Stored solver answers belong to the first list and stay readable with it": its path variables have the numbers of document 01. Steps and marks have them in both lists.
  pub first_numbers : τ.listing ≡ First → (q u p v I J : ℕ) → let n = τ.states in
      let m = τ.sets in
      let r = reference.states in
      let L = letters reference in
      numbers reference τ (path q u p v I J) ≡ n * n * L + n * n * L * m + (1 + ((((q * r + u) * n + p) * r + v) * 2 ^ m + I) * 2 ^ reference.sets + J)
  pub step_numbers : (q l p : ℕ) → numbers reference τ (step q l p) ≡ 1 + (q * letters reference + l) * τ.states + p
  pub mark_numbers : (q l i p : ℕ) → let n = τ.states in
      numbers reference τ (mark q l i p) ≡ n * n * letters reference + (1 + ((q * letters reference + l) * τ.sets + i) * n + p)
  -- 3. The file can be satisfied exactly if some automaton C is found: with n states, m sets, the named acceptance ("demand 3 speaks of the automata that
  -- carry it"), "start 0" and the reference's propositions and names, and in agreement with the reference on every lasso word.
  pub satisfiable : ((ν : Assignment) × Satisfies ν (file reference τ)) ↔ ((C : Automaton) × Found reference τ C)
  -- "An assignment says yes or no to each variable from 1 to V": what it says of other numbers does not count.
  pub within : (ν ξ : Assignment) → ((k : ℕ) → 0 < k → k ≤ last reference τ → ν k ≡ ξ k) → Satisfies ν (file reference τ)
      → Satisfies ξ (file reference τ) × (decoded_value reference τ ν ≡ decoded_value reference τ ξ)
  -- 4. Every assignment that satisfies the file decodes to such an automaton,
  pub decodes : (ν : Assignment) → Satisfies ν (file reference τ) → Found reference τ (decoded_value reference τ ν)
  -- and for every text that states it, and every list of pieces that make up the text, the decoder answers that automaton from what a fresh reader then holds.
  pub delivers : (ν : Assignment) → Satisfies ν (file reference τ) → (text : List ℕ) → States (last reference τ) (kept reference τ) text ν
      → (pieces : List (List ℕ)) → joined pieces ≡ text → (r : Reader) → Held reference τ pieces r
      → (prefix prefix-after loop loop-after : List ℕ) (answer : Result Decoded Refusal) → Decodes prefix prefix-after loop loop-after answer reference τ r
      → Delivers (decoded_value reference τ ν) prefix prefix-after loop loop-after answer
  -- 5. Every such automaton is decoded from an assignment that satisfies the file: the same value.
  pub complete : (C : Automaton) → Found reference τ C → (ν : Assignment) × Satisfies ν (file reference τ) × (decoded_value reference τ ν ≡ C)
