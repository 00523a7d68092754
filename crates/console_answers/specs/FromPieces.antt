-- DEFINITION: what a program holds of solver text: what the reader and the decoder make of the pieces that were read. Which bytes those are, and so what the calls of
-- POSIX's read answer, no contract can say; what is told of them is fixed here.
use Rattle.std.specs.Prelude.{◌≡◌, Bool, true, false, cond, List, [], ◌∷◌, ℕ, ◌≤◌, ◌<◌, ℤ, pos, negsuc, length, Result, Ok, Err}
use Rattle.automaton.specs.declared.Automaton.{Automaton}
use Rattle.refusals.specs.declared.Refusal.{Refusal}
use Rattle.refusals.specs.declared.Refusal.TheVariants.{SolverForm, Literal}
use Rattle.clause_sizes.specs.declared.Target.{Target}
use Rattle.solver_text.specs.declared.Reader.{Reader}
use Rattle.solver_text.specs.Machine.{fresh}
use Rattle.solver_text.specs.Calls.{Reads, joined}
use Rattle.decode.specs.Answers.{Decodes}
use Rattle.console_places.specs.Places.{place_of}
use Rattle.console_answers.specs.declared.Told.{Told}

-- What the calls of read answered one after another, each for 65,536 bytes; the pieces that they brought, every one of them in its order; and whether the text is whole.
-- They go on until the input ends, a call fails or the text is `refused`, and no sooner.
pub data Brings (refused : Type 0) : List ℤ → List (List ℕ) → (whole : Bool) → Type 0 where
  ends : Brings refused (pos 0 ∷ []) [] true
  fails : (k : ℕ) → Brings refused (negsuc k ∷ []) [] false
  early : refused → Brings refused [] [] true
  brings : (u : List ℕ) {answers : List ℤ} {us : List (List ℕ)} {w : Bool} → 0 < length u → length u ≤ 65536 → Brings refused answers us w
      → Brings refused (pos (length u) ∷ answers) (u ∷ us) w

-- what is told is a refusal
pub record Refuses (told : Told) : Type 0 where
  pub refusal : Refusal
  pub is : told.decoded ≡ Err refusal

-- The two buffers before and after, and what was told, for every reference and target: as an error where the text is not whole. A call that is refused with 4, 8, 9 or
-- 10 is a call like any other, with the reader that it leaves; an empty piece comes first, so that 4 and 8 are said before the text is waited for. `Demand3.delivers` takes
-- `reads` (as `Held.read`) and `decodes` as they stand here: where the pieces make up a text that states a satisfying assignment, what is told is the table that it
-- decodes to.
pub record FromPieces (prefix prefix-after loop loop-after : List ℕ) (told : Result Told Told) (reference : Automaton) (τ : Target) : Type 0 where
  pub pieces : List (List ℕ)
  pub answers : List ℤ
  pub whole : Bool
  -- what is made of the pieces
  pub made : Told
  pub is : told ≡ cond whole (Ok made) (Err made)
  pub brought : Brings (Refuses made) answers pieces whole
  pub reader : Reader
  pub reads : Reads reference τ fresh ([] ∷ pieces) reader
  pub decodes : Decodes prefix prefix-after loop loop-after made.decoded reference τ reader
  -- with 9 and 10, the place of the offset in the text that the pieces make up
  pub form_place : (offset : ℕ) → made.decoded ≡ Err (SolverForm offset) → made.place ≡ place_of (joined pieces) offset
  pub literal_place : (offset : ℕ) → made.decoded ≡ Err (Literal offset) → made.place ≡ place_of (joined pieces) offset
