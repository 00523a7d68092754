-- DEFINITIONS: a list of calls of the clause step, and what is said of it. Document 01, "The words of demand 3": "Each call gets the same
-- reference, n and m, .. a buffer of any length and the state as the call before it, refused or not, left it".
use Rattle.std.specs.Prelude.{◌≡◌, ℕ, zero, suc, ◌<◌, ℤ, length, take, Option, Some, None, Result, Ok, Err}
use mathlib.Core.List.{List, [], ◌∷◌, ◌++◌, Memᴰ}
use Rattle.automaton.specs.declared.Automaton.{Automaton}
use Rattle.refusals.specs.declared.Refusal.{Refusal}
use Rattle.clause_sizes.specs.declared.Target.{Target}
use Rattle.clause_sizes.specs.Targets.{file}
use Rattle.clause_indices.specs.Indices.{clause_room}
use Rattle.clause_step.specs.declared.Handed.{Handed}
use Rattle.clause_step.specs.Step.{position_after, Stepped}

-- of a function that writes A's: the position handed in, the buffer before and after, and what came back
pub record CallOn (A : Type 0) : Type 0 where
  pub from : ℕ
  pub before : List A
  pub after : List A
  pub result : Result Handed Refusal

-- calls from position x on, each at the position that the one before it left; `Says` is what one call says of them
abbrev pub CallsOn : {A : Type 0} (Says : (x : ℕ) (d e : List A) → Result Handed Refusal → Type 0) (x : ℕ) → List (CallOn A) → Type 0
CallsOn Says x [] = Unit {0}
CallsOn Says x (c ∷ cs) = (c.from ≡ x) × Says x c.before c.after c.result × CallsOn Says (position_after x c.result) cs

-- a call is refused for its buffer only, which has less than the needed places, and keeps the position and the buffer
abbrev pub RefusedShort : {A : Type 0} (needed : ℕ) → List (CallOn A) → Type 0
RefusedShort {A} needed cs =
    (c : CallOn A) → Memᴰ c cs → (f : Refusal) → c.result ≡ Err f
    → (length c.before < needed) × (position_after c.from c.result ≡ c.from) × (c.after ≡ c.before)

-- ---- of the clause step

abbrev pub Call : Type 0
Call = CallOn ℤ

abbrev pub Calls : (a : Automaton) (τ : Target) (x : ℕ) → List Call → Type 0
Calls a τ = CallsOn (Stepped a τ)

-- what a call that is not refused says: the literals at the start of the buffer, or None where the list has ended
abbrev pub literals : Option ℕ → List ℤ → Option (List ℤ)
literals (Some k) after = Some (take k after)
literals None after = None

abbrev pub said : Result Handed Refusal → List ℤ → List (Option (List ℤ))
said (Ok h) after = literals h.written after ∷ []
said (Err f) after = []

abbrev pub all_said : List Call → List (Option (List ℤ))
all_said [] = []
all_said (c ∷ cs) = said c.result c.after ++ all_said cs

-- k answers: the clauses in order, one each, and then "ended" again and again
abbrev pub in_order : List (List ℤ) → (k : ℕ) → List (Option (List ℤ))
in_order cs zero = []
in_order [] (suc k) = None ∷ in_order [] k
in_order (c ∷ cs) (suc k) = Some c ∷ in_order cs k

-- what the clause step does over a whole list of calls
pub record HandsOut (a : Automaton) (τ : Target) (cs : List Call) : Type 0 where
  pub answers : all_said cs ≡ in_order (file a τ) (length (all_said cs))
  pub refused : RefusedShort clause_room cs
