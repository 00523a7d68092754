-- What a reader and the decoder make of a solver text, in whatever pieces it came: what the text gives by its definition.
use Rattle.std.specs.Prelude.{◌≡◌, refl, Result, List, ℕ, ◌≤◌, eqb, length, get_or}
use Rattle.std.proofs.Common.{subst, ◌∙◌}
use Rattle.automaton.specs.declared.Automaton.{Automaton}
use Rattle.refusals.specs.declared.Refusal.{Refusal}
use Rattle.refusals.specs.Refused.{code_of}
use Rattle.automaton.specs.Value.{Valid}
use Rattle.clause_sizes.specs.declared.Target.{Target}
use Rattle.clause_sizes.specs.Targets.{Proper, last, kept}
use Rattle.compare.specs.Compared.{prefix_room, loop_room}
use Rattle.solver_text.specs.declared.Reader.{Reader}
use Rattle.solver_text.specs.declared.Reply.{Reply}
use Rattle.solver_scan.specs.declared.Verdict.TheVariants.{Satisfiable}
use Rattle.solver_scan.specs.SolverText.{Seen, gives, refused, outcome}
use Rattle.solver_agreement.specs.Assignment.{asserted, States}
use Rattle.solver_text.specs.Calls.{InRange, Ends}
use Rattle.solver_text.specs.Answered.{called_text}
use Rattle.solver_agreement.specs.Table.{table}
use Rattle.solver_agreement.specs.Pieces.{reads_range, Tells, whole_text}
use Rattle.decode.specs.declared.Decoded.{Decoded}
use Rattle.decode.specs.Answers.{whole, Decodes, Admitted, ByAssignment}
use Rattle.decks.specs.Words.{HasRead, SolverTextRefused}

module _ {a : Automaton} {τ : Target} (v : Valid a) (z : Proper τ) {text : List ℕ} {q : Reader} (h : HasRead a τ text q) where
  in_range : InRange q
  in_range = reads_range v z h.reads

  -- the reply at the end tells what the whole text gives
  tells : {e : Reply} → Ends a τ q e → Tells (kept a τ) (outcome (last a τ) (kept a τ) text) e
  tells {e} k = subst (λ t. Tells (kept a τ) (outcome (last a τ) (kept a τ) t) e) h.whole (whole_text v z h.reads k)

  -- and so does what the decoder takes for it
  whole_tells : Tells (kept a τ) (outcome (last a τ) (kept a τ) text) (whole a τ q)
  whole_tells = tells (called_text v in_range z refl)

  module _ {prefix prefix-after loop loop-after : List ℕ} (hp : prefix_room ≤ length prefix) (hl : loop_room ≤ length loop) {x : Result Decoded Refusal}
      (d : Decodes prefix prefix-after loop loop-after x a τ q) where
    admitted : Admitted prefix prefix-after loop loop-after x a τ q
    admitted = record { prefix_room_fits = hp; loop_room_fits = hl; valid = v; in_range = in_range; sizes = z }

    pub by_assignment : {s : Seen} → outcome (last a τ) (kept a τ) text ≡ gives s → s.verdict ≡ Satisfiable
        → ByAssignment prefix prefix-after loop loop-after x a τ (λ k. eqb (get_or (table (kept a τ) s.literals) k 0) 1)
    by_assignment {s} e k =
        let t = whole_tells in
        subst (λ t. ByAssignment prefix prefix-after loop loop-after x a τ (λ k. eqb (get_or t k 0) 1)) (t.named s e)
        ((d.accepted admitted (t.accepted s e)).satisfiable (t.verdict s e ∙ k))

-- a text with a fault
pub text_refused : {a : Automaton} {τ : Target} → Valid a → Proper τ → {text : List ℕ} {f : Refusal} → outcome (last a τ) (kept a τ) text ≡ refused f
    → SolverTextRefused a τ text (code_of f)
text_refused v z {f} e = record {
  refusal = f;
  code = refl;
  of_text = e;
  reply = λ q h r k. (tells v z h k).refusal f e;
  decoder = λ q h prefix prefix-after loop loop-after hp hl x d. d.text (admitted v z h hp hl d) f ((whole_tells v z h).refusal f e);
}

-- the assignment that a text states
pub stating : {last kept : ℕ} {text : List ℕ} {s : Seen} → outcome last kept text ≡ gives s → s.verdict ≡ Satisfiable
    → States last kept text (λ k. asserted k s.literals)
stating {s} e k = record { seen = s; accepted = e; verdict = k; named = λ i h g. refl }
