-- DEMAND 2, stated and proved. "Same" exactly if two automata agree on every lasso word, and otherwise the first word that one accepts and the other rejects;
-- and a written automaton reads back as itself.
use Rattle.std.specs.Prelude.{◌≡◌, ◌≢◌, ◌↔◌, Result, Ok, List, ℕ, suc, ◌+◌, ◌*◌, ◌≤◌, ◌<◌, length, take}
use Rattle.meaning.specs.Agreement.{Agree, AgreeEverywhere}
use Rattle.meaning.specs.FirstWord.{FirstWord}
use Rattle.automaton.specs.declared.Automaton.{Automaton}
use Rattle.refusals.specs.declared.Refusal.{Refusal}
use Rattle.automaton.specs.Value.{Valid}
use Rattle.automaton.specs.View.{view}
use Rattle.clause_sizes.specs.declared.Target.{Target}
use Rattle.compare.specs.Compared.{Compared, Shown, prefix_room, loop_room}
use Rattle.solver_text.specs.declared.Reader.{Reader}
use Rattle.decode.specs.declared.Decoded.{Decoded}
use Rattle.decode.specs.Answers.{Decodes}
use Rattle.search_rule.specs.declared.Search.{Search}
use Rattle.search.specs.declared.Reply as search
use Rattle.search.specs.Replies.{Found}
use Rattle.hoa_text.specs.Reading.{read}
use Rattle.hoa_read.specs.Told.{told}
use Rattle.hoa_write.specs.Answer.{hoa_room, Answered}

-- ---- the statement

-- a comparison that is not turned down by 13, 4 or 14: the buffers have room, the two values are automata, over the same letters
pub record Admitted (a b : Automaton) (prefix loop : List ℕ) : Type 0 where
  pub prefix_room_fits : prefix_room ≤ length prefix
  pub loop_room_fits : loop_room ≤ length loop
  pub first : Valid a
  pub second : Valid b
  pub letters : a.propositions ≡ b.propositions

-- what is said of every call of the comparison, with the two lent buffers before and after
pub record Compares (a b : Automaton) (prefix prefix-after loop loop-after : List ℕ) (answer : Result (Unit {0}) Refusal) : Type 0 where
  -- "same" exactly if two automata agree on every lasso word
  pub same : (answer ≡ Ok tt) ↔ (Admitted a b prefix loop × Agree (view a) (view b))
  -- that is, on every infinite word
  pub everywhere : (answer ≡ Ok tt) ↔ (Admitted a b prefix loop × AgreeEverywhere (view a) (view b))
  -- and otherwise 12: the buffers begin with the first lasso word that one accepts and the other rejects, and are else as they were
  pub differ : Admitted a b prefix loop → answer ≢ Ok tt → Shown a b prefix prefix-after loop loop-after answer

-- The word of document 02's request E5, for two automata that differ: there is one, and no other, in whichever order the two are named; and it keeps the
-- documents' bounds: "With N the product of the two state counts, prefix ≤ N - 1", and "The loop bound becomes (the sum of both set counts + 1)N".
pub record TheWord (a b : Automaton) : Type 0 where
  pub x : List ℕ
  pub y : List ℕ
  pub first : FirstWord (view a) (view b) x y
  pub only : (u v : List ℕ) → FirstWord (view a) (view b) u v → (u ≡ x) × (v ≡ y)
  pub either_order : FirstWord (view b) (view a) x y
  pub prefix_lt : length x < a.states * b.states
  pub loop_le : length y ≤ suc (a.sets + b.sets) * (a.states * b.states)

pub record Demand2 : Type 0 where
  pub compares : (a b : Automaton) (prefix prefix-after loop loop-after : List ℕ) (answer : Result (Unit {0}) Refusal) → Compared a b prefix prefix-after loop loop-after answer
      → Compares a b prefix prefix-after loop loop-after answer
  pub the_word : (a b : Automaton) → Valid a → Valid b → a.propositions ≡ b.propositions → ¬ Agree (view a) (view b) → TheWord a b
  -- "The word is no longer left to the program": two outcomes of a call that the promise allows are the same, answer and buffers
  pub compares_once : (a b : Automaton) (prefix p q loop l m : List ℕ) (x y : Result (Unit {0}) Refusal) → Compared a b prefix p loop l x → Compared a b prefix q loop m y
      → (x ≡ y) × (p ≡ q) × (l ≡ m)
  -- "and decoder and search pass the stronger promise on"
  pub decodes_once : (prefix p q loop l m : List ℕ) (x y : Result Decoded Refusal) (a : Automaton) (τ : Target) (r : Reader) → Decodes prefix p loop l x a τ r → Decodes prefix q loop m y a τ r
      → (x ≡ y) × (p ≡ q) × (l ≡ m)
  pub finds_once : (s : Search) (table : Automaton) (prefix p q loop l m : List ℕ) (x y : Result search.Reply Refusal) → Found s table prefix p loop l x → Found s table prefix q loop m y
      → (x ≡ y) × (p ≡ q) × (l ≡ m)
  -- what the writer leaves at the start of the buffer is a text that the reader reads as the same automaton: the same value
  pub reads_back : (a : Automaton) (out after : List ℕ) (answer : Result ℕ Refusal) → Answered a out after answer → Valid a → hoa_room ≤ length out
      → (k : ℕ) × (answer ≡ Ok k) × ((r : Result Automaton Refusal) → r ≡ told (read (take k after)) → r ≡ Ok a)
