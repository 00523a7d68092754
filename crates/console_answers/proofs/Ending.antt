-- What is told at the end of the text, and the place of its refusal.
use mathlib.Core.Path.{◌≡◌, refl, sym, ap, ◌∙◌, subst}
use mathlib.Core.Bool.{false, cond}
use Rattle.std.specs.Prelude.{Result, Ok, Err}
use mathlib.Core.List.{List, []}
use Prim.Native.Nat.{ℕ, ◌≤◌}
use native.Mathlib.Omega.{arith}
use Rattle.automaton.specs.declared.Automaton.{Automaton}
use Rattle.refusals.specs.declared.Refusal.{Refusal}
use Rattle.refusals.specs.declared.Refusal.TheVariants.{SolverForm, Literal}
use Rattle.refusals.specs.Refused.{code_of}
use Rattle.clause_sizes.specs.declared.Target.{Target}
use Rattle.clause_sizes.specs.Targets.{last, kept}
use Rattle.solver_scan.specs.Scanning.{refused_at}
use Rattle.solver_text.specs.Machine.{fresh}
use Rattle.solver_text.specs.Calls.{Reads, joined}
use Rattle.solver_agreement.specs.Staying.{refused_end}
use Rattle.solver_scan.specs.Cases.{by}
use Rattle.decode.specs.Answers.{Decodes}
use Rattle.console_places.specs.Places.{within, place_of}
use Rattle.console_answers.specs.declared.Heard.{Heard}
use Rattle.console_answers.specs.declared.Told.{Told}
use Rattle.console_answers.specs.declared.Stage.{Stage}
use Rattle.console_answers.specs.declared.Stage.TheVariants.{More, Whole, Failed}
use Rattle.console_answers.specs.FromPieces.{Refuses, FromPieces}
use Rattle.console_answers.specs.Bringing.{brought_all, last_refused}
use Rattle.console_answers.specs.SoFar.{SoFar, Closed, more, whole, ended_at}
use Rattle.console_answers.proofs.Closing.{closed_refusal}
use Rattle.console_answers.proofs.Offsets.{Counted, From, end_from}
use Rattle.console_answers.proofs.Places.{place_stable, place_end, from_end, within_again}
use Rattle.console_answers.proofs.Answered.{ByText, by_text}
use Rattle.console_answers.proofs.Further.{counted}

module _ (t : Told) where
  pub told_failed : {s : Stage} → s ≡ Failed → Err t ≡ cond (whole s) (Ok t) (Err t)
  told_failed e = ap (λ s. cond (whole s) (Ok t) (Err t)) (sym e)

  pub told_whole : {s : Stage} → ¬ (s ≡ Failed) → Ok t ≡ cond (whole s) (Ok t) (Err t)
  told_whole {s} n = go s n
    where
      go : (s : Stage) → ¬ (s ≡ Failed) → Ok t ≡ cond (whole s) (Ok t) (Err t)
      go More n = refl
      go Whole n = refl
      go Failed n = absurd (n refl)

module _ {a : Automaton} {τ : Target} {h : Heard} (s : SoFar a τ h) {p p' l l' : List ℕ} (t : Told) (d : Decodes p p' l l' t.decoded a τ h.reader)
    (u : List ℕ) (nil : u ≡ []) (e : t.place ≡ ended_at t.decoded h.place u) where
  abbrev text : List ℕ
  text = joined s.pieces

  abbrev at : ℕ
  at = h.reader.scan.at

  ended_place : (f : Refusal) → ByText a τ h.reader f → within h.place [] (code_of f).first ≡ place_of (joined s.pieces) (code_of f).first
  ended_place f b =
      let o : ℕ = (code_of f).first in
      let c : Counted text h.reader.scan = counted b.valid b.sizes s.reads in
      let start = ap (λ q. within q [] o) (s.placed b.valid b.sizes) in
      by (refused_at h.reader.scan.place)
      (λ g.
      let same : at ≡ o = sym (b.offset ∙ ap (λ x. x.scan.at) (refused_end (last a τ) (kept a τ) h.reader g)) in
      start ∙ ap (λ q. within (place_of text q) [] o) same ∙ within_again text o (omega (arith, same, c.inside)) (omega (arith, same, c.limit)))
      (λ g.
      let from : From text o = subst (From text) (sym b.offset) (end_from (last a τ) (kept a τ) text h.reader c g) in
      start ∙ ap (λ q. within (place_of text q) [] o) (c.all g) ∙ ap (λ q. within q [] o) (place_end text)
      ∙ from_end text o (omega (arith, c.all g, c.limit)) from)

  told_place : (f : Refusal) → 9 ≤ (code_of f).number → (code_of f).number ≤ 10 → t.decoded ≡ Err f
      → t.place ≡ place_of (joined s.pieces) (code_of f).first
  told_place f low high is =
      place_stable _ _ (λ never. by_text d f is low high (λ b.
      never (e ∙ ap (λ w. ended_at w h.place u) is ∙ ap (λ v. within h.place v (code_of f).first) nil ∙ ended_place f b)))

  -- the pieces that were brought make up the same text
  brought_place : (f : Refusal) → 9 ≤ (code_of f).number → (code_of f).number ≤ 10 → t.decoded ≡ Err f
      → t.place ≡ place_of (joined s.brought_pieces) (code_of f).first
  brought_place f low high is = told_place f low high is ∙ ap (λ ps. place_of (joined ps) (code_of f).first) s.empty_first

  refuses : Closed a τ h.reader → Refuses t
  refuses c = let (f, e) = closed_refusal d c in record { refusal = f; is = e }

  pub told_pieces : {o : Result Told Told} → more h.stage ≡ false → o ≡ cond (whole h.stage) (Ok t) (Err t) → FromPieces p p' l l' o a τ
  told_pieces over is = record {
    pieces = s.brought_pieces;
    answers = _;
    whole = whole h.stage;
    made = t;
    is = is;
    brought = brought_all s.brought (last_refused refuses (s.last over));
    reader = h.reader;
    reads = subst (λ ps. Reads a τ fresh ps h.reader) s.empty_first s.reads;
    decodes = d;
    form_place = λ o. brought_place (SolverForm o) (omega arith) (omega arith);
    literal_place = λ o. brought_place (Literal o) (omega arith) (omega arith);
  }
