-- The part of a call that comes before reading, as its function promises it.
use Rattle.std.specs.Prelude.{◌≡◌, Result, Ok, Err}
use Rattle.std.proofs.Math.Option.{Option}
use Rattle.automaton.specs.declared.Automaton.{Automaton}
use Rattle.refusals.specs.declared.Code.{Code}
use Rattle.refusals.specs.declared.Refusal.{Refusal}
use Rattle.refusals.specs.declared.Refusal.TheVariants.{Outside}
use Rattle.automaton.specs.Value.{Valid}
use Rattle.clause_sizes.specs.declared.Target.{Target}
use Rattle.clause_sizes.specs.Targets.{Proper, last, kept}
use Rattle.clause_sizes.specs.Sizes.{Refuses}
use Rattle.solver_text.specs.declared.Reader.{Reader}
use Rattle.solver_text.specs.declared.call.Variables.{Variables}
use Rattle.solver_text.specs.Calls.{InRange}

-- what speaks against reading
pub data Objects (a : Automaton) (τ : Target) (r : Reader) : Refusal → Type 0 where
  state : ¬ InRange r → Objects a τ r Outside
  call : {f : Refusal} {c : Option Code} → InRange r → Refuses a τ f c → Objects a τ r f

-- the numbers of the file, or the objection
abbrev pub Judged : Automaton → Target → Reader → Result Variables Refusal → Type 0
Judged a τ r (Ok file) = InRange r × Valid a × Proper τ × (file.last ≡ last a τ) × (file.kept ≡ kept a τ)
Judged a τ r (Err f) = Objects a τ r f
