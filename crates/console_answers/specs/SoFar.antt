-- The text so far, as the functions that read it promise it.
use Rattle.std.specs.Prelude.{◌≡◌, Bool, true, false, List, [], ◌∷◌, ℕ, ◌≤◌, ◌<◌, ℤ, length, Result, Ok, Err}
use Rattle.automaton.specs.declared.Automaton.{Automaton}
use Rattle.refusals.specs.declared.Refusal.{Refusal}
use Rattle.refusals.specs.Refused.{code_of}
use Rattle.automaton.specs.Value.{Valid}
use Rattle.clause_sizes.specs.declared.Target.{Target}
use Rattle.clause_sizes.specs.Targets.{Proper, kept, last}
use Rattle.solver_text.specs.declared.Reader.{Reader}
use Rattle.solver_text.specs.declared.Reply.{Reply}
use Rattle.solver_scan.specs.Scanning.{refused_at}
use Rattle.solver_text.specs.Machine.{fresh, told, run}
use Rattle.solver_text.specs.Calls.{Called, Reads, joined}
use Rattle.decode.specs.declared.Decoded.{Decoded}
use Rattle.console_places.specs.declared.Place.{Place}
use Rattle.console_places.specs.Places.{after, within, place_of}
use Rattle.console_answers.specs.declared.Heard.{Heard}
use Rattle.console_answers.specs.declared.Stage.{Stage}
use Rattle.console_answers.specs.declared.Stage.TheVariants.{More, Whole, Failed}
use Rattle.console_answers.specs.Bringing.{Brought, Last}

-- more of the text may come
abbrev pub more : Stage → Bool
more More = true
more Whole = false
more Failed = false

-- no call failed
abbrev pub whole : Stage → Bool
whole More = true
whole Whole = true
whole Failed = false

-- what is held after a reply to the piece u, which begins at p
abbrev pub heard_of : Place → List ℕ → Result (Unit {0}) Refusal → Reader → Heard
heard_of p u (Ok _) r = record { stage = More; reader = r; place = after p u }
heard_of p u (Err x) r = record { stage = Whole; reader = r; place = within p u (code_of x).first }

module _ (a : Automaton) (τ : Target) where
  -- a call with the piece u
  pub record Hears (r : Reader) (p : Place) (u : List ℕ) (h : Heard) : Type 0 where
    pub reply : Reply
    pub called : Called a τ r (told (run (last a τ) (kept a τ) r u)) reply
    pub is : h ≡ heard_of p u reply.answer reply.reader

  -- the end of the input, or a piece that is not empty
  pub data Goes (h k : Heard) : Type 0 where
    ends : (s : Stage) → more s ≡ false → Last ⊥ (whole s) → k ≡ record { stage = s; reader = h.reader; place = h.place } → Goes h k
    goes : (u : List ℕ) → 0 < length u → length u ≤ 65536 → Hears h.reader h.place u k → Goes h k

  -- no call with this reader is accepted any more
  abbrev pub Closed : Reader → Type 0
  Closed r = Valid a → Proper τ → refused_at r.scan.place ≡ true

  -- The pieces so far, of which the first is empty. While there may be more, nothing was refused. The place is that of the offset that the reader carries.
  pub record SoFar (h : Heard) : Type 0 where
    pub pieces : List (List ℕ)
    pub brought_pieces : List (List ℕ)
    pub empty_first : pieces ≡ [] ∷ brought_pieces
    pub answers : List ℤ
    pub brought : Brought answers brought_pieces
    pub last : more h.stage ≡ false → Last (Closed h.reader) (whole h.stage)
    pub reads : Reads a τ fresh pieces h.reader
    pub accepted : more h.stage ≡ true → ¬ ¬ (Valid a × Proper τ × (refused_at h.reader.scan.place ≡ false))
    pub placed : Valid a → Proper τ → h.place ≡ place_of (joined pieces) h.reader.scan.at

-- the place of a refusal at the end of the text, behind which `nothing` comes
abbrev pub ended_at : Result Decoded Refusal → Place → List ℕ → Place
ended_at (Ok d) p nothing = p
ended_at (Err x) p nothing = within p nothing (code_of x).first
