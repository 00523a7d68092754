-- DEFINITION: the public calls: the numbers of a file, the ranges of a carried state, and what is judged in which order.
use Rattle.std.specs.Prelude.{◌≡◌, ◌≢◌, ◌↔◌, List, [], ◌∷◌, ◌++◌, ℕ, ◌≤◌, ◌<◌, length, get_or, Result, Ok, Err}
use Rattle.std.proofs.Math.Option.{Option, none as no_code, some}
use Rattle.acceptance.specs.Masks.{OwnSets}
use Rattle.automaton.specs.declared.Automaton.{Automaton}
use Rattle.refusals.specs.declared.Code.{Code}
use Rattle.refusals.specs.declared.Refusal.{Refusal}
use Rattle.refusals.specs.declared.Refusal.TheVariants.{Outside, Dimensions, SolverForm, Literal}
use Rattle.refusals.specs.Refused.{row, code_of}
use Rattle.automaton.specs.Value.{Valid}
use Rattle.clause_sizes.specs.declared.Target.{Target}
use Rattle.clause_sizes.specs.Targets.{Dimensioned, Proper, last, kept}
use Rattle.solver_text.specs.declared.Reader.{Reader}
use Rattle.solver_text.specs.declared.Reply.{Reply}
use Rattle.solver_scan.specs.SolverText.{AllRefused}
use Rattle.solver_text.specs.Machine.{told, run, end}

-- the ranges of the fields, which do not depend on the target: no verdict has more than 13 letters, no number of a literal is kept past
-- 2,000,000,009, and a variable is not named (0), true (1) or false (2)
pub record InRange (r : Reader) : Type 0 where
  pub letters_le : r.scan.letters ≤ 13
  pub value_le : r.scan.value ≤ 2_000_000_009
  pub named_le : (v : ℕ) → v < 5121 → get_or r.named v 0 ≤ 2

-- "Returned (number, a, b)": what an answer returns, or none where nothing is turned down
abbrev pub returned : Result (Unit {0}) Refusal → Option Code
returned (Ok _) = no_code
returned (Err x) = some (code_of x)

-- what a call returns, by document 01's rows: 4 for the automaton and the state, 8, 4 for the named acceptance, and 9 and 10 where reading gives them
pub record Returns (a : Automaton) (τ : Target) (r : Reader) (read : Reply) (returns : Option Code) : Type 0 where
  pub automaton : (Valid a → ⊥) → returns ≡ some (row 4 0 0)
  pub state : (InRange r → ⊥) → returns ≡ some (row 4 0 0)
  pub sizes : Valid a → InRange r → (Dimensioned τ → ⊥) → returns ≡ some (row 8 τ.states τ.sets)
  pub acceptance : Valid a → InRange r → Dimensioned τ → (OwnSets τ.acceptance τ.sets → ⊥) → returns ≡ some (row 4 0 0)
  pub form : Valid a → InRange r → Proper τ → (offset : ℕ) → read.answer ≡ Err (SolverForm offset) → returns ≡ some (row 9 offset 0)
  pub literal : Valid a → InRange r → Proper τ → (offset : ℕ) → read.answer ≡ Err (Literal offset) → returns ≡ some (row 10 offset 0)
  pub accepted : Valid a → InRange r → Proper τ → read.answer ≡ Ok tt → returns ≡ no_code

-- a refusal that speaks of the call and leaves the state as it was
abbrev pub refusal : Refusal → Reader → Reply
refusal x r = record { answer = Err x; reader = r }

-- "4 for handed values, 8, then reading left to right", and of the named acceptance "a yes past m: 4, 0, 0, after 8": the reply e to a call with the
-- state r, where `read` is what reading gives
pub record Called (a : Automaton) (τ : Target) (r : Reader) (read e : Reply) : Type 0 where
  pub automaton : (Valid a → ⊥) → e ≡ refusal Outside r
  pub state : (InRange r → ⊥) → e ≡ refusal Outside r
  pub sizes : Valid a → InRange r → (Dimensioned τ → ⊥) → e ≡ refusal (Dimensions τ.states τ.sets) r
  pub acceptance : Valid a → InRange r → Dimensioned τ → (OwnSets τ.acceptance τ.sets → ⊥) → e ≡ refusal Outside r
  pub text : Valid a → InRange r → Proper τ → e ≡ read
  pub returns : Returns a τ r read (returned e.answer)

-- "its own state goes likewise from piece to piece, empty ones too": calls with the pieces of a list, from the state r to the state q
pub data Reads (a : Automaton) (τ : Target) : Reader → List (List ℕ) → Reader → Type 0 where
  none : {r : Reader} → Reads a τ r [] r
  piece : {r : Reader} {u : List ℕ} {e : Reply} {us : List (List ℕ)} {q : Reader} → Called a τ r (told (run (last a τ) (kept a τ) r u)) e
      → Reads a τ e.reader us q → Reads a τ r (u ∷ us) q

-- and the end of the text
abbrev pub Ends : Automaton → Target → Reader → Reply → Type 0
Ends a τ q e = Called a τ q (told (end (last a τ) (kept a τ) q)) e

-- the text that pieces make up
abbrev pub joined : List (List ℕ) → List ℕ
joined [] = []
joined (u ∷ us) = u ++ joined us

-- What a call with a piece is answered, where `text` is all that was read, the piece included: it is refused exactly where every text that begins so is.
-- A text of 4,294,967,295 bytes either ends or goes on with a byte that is refused, so 9 at that offset may be certain; it is said when one of them comes.
pub record RefusedExactly (last kept : ℕ) (text : List ℕ) (answer : Result (Unit {0}) Refusal) : Type 0 where
  pub exactly : length text ≢ 4_294_967_295 → (x : Refusal) → (answer ≡ Err x) ↔ AllRefused last kept text x
  pub full : length text ≡ 4_294_967_295 → (x : Refusal) → (answer ≡ Err x) ↔ (AllRefused last kept text x × (x ≢ SolverForm 4_294_967_295))
