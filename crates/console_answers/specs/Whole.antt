-- What is made of the pieces is the answer to the whole text that the pieces make up, and to a text that states a satisfying assignment, the table that it decodes to.
use Rattle.std.specs.Prelude.{List, ℕ, ◌≤◌, length, Result, Ok}
use Rattle.std.proofs.Math.Option.{none}
use Rattle.automaton.specs.declared.Automaton.{Automaton}
use Rattle.automaton.specs.Value.{Valid}
use Rattle.encoding.specs.Clauses.{Assignment, Satisfies}
use Rattle.clause_sizes.specs.declared.Target.{Target}
use Rattle.clause_sizes.specs.Targets.{Proper, last, kept, file}
use Rattle.compare.specs.Compared.{prefix_room, loop_room}
use Rattle.solver_scan.specs.SolverText.{outcome}
use Rattle.solver_agreement.specs.Assignment.{States}
use Rattle.solver_text.specs.Calls.{joined}
use Rattle.decode.specs.declared.Decoded.TheVariants.{Table}
use Rattle.decode.specs.Answers.{Untouched, OfText}
use Rattle.decode.specs.Table.{decoded_value}
use Rattle.decode.specs.Texts.{text_answer, satisfying_text}
use Rattle.console_answers.specs.declared.Told.{Told}
use Rattle.console_answers.specs.FromPieces.{FromPieces}

module _ {p p' l l' : List ℕ} {t : Result Told Told} {a : Automaton} {τ : Target} (f : FromPieces p p' l l' t a τ) (v : Valid a) (z : Proper τ)
    (hp : prefix_room ≤ length p) (hl : loop_room ≤ length l) where
  pub text_told : OfText p p' l l' f.made.decoded a τ (outcome (last a τ) (kept a τ) (joined f.pieces))
  text_told = text_answer v z hp hl f.reads f.decodes

  pub table_told : (ν : Assignment) → Satisfies ν (file a τ) → States (last a τ) (kept a τ) (joined f.pieces) ν
      → Untouched p p' l l' f.made.decoded (Ok (Table (decoded_value a τ ν))) none
  table_told ν s x = satisfying_text v z hp hl ν s f.reads x f.decodes
