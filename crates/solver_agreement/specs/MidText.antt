-- WHAT A READER ANSWERS IN MID-TEXT: a piece is refused exactly where every text that begins so is refused, and with the same 9 or 10.
use Rattle.std.specs.Prelude.{◌≡◌, ◌≢◌, ◌↔◌, Bool, true, false, List, [], ◌∷◌, ◌++◌, ℕ, ◌≤◌, ◌<◌, eqb, length, Err}
use Rattle.std.proofs.Math.Path.{sym, ap}
use Rattle.std.proofs.Common.{subst, ◌∙◌, arith, eqb-true}
use Rattle.automaton.specs.declared.Automaton.{Automaton}
use Rattle.refusals.specs.declared.Refusal.{Refusal}
use Rattle.refusals.specs.declared.Refusal.TheVariants.{SolverForm}
use Rattle.automaton.specs.Value.{Valid}
use Rattle.clause_sizes.specs.declared.Target.{Target}
use Rattle.clause_sizes.specs.Targets.{Proper, last, kept}
use Rattle.solver_text.specs.declared.Reader.{Reader}
use Rattle.solver_text.specs.declared.Reply.{Reply}
use Rattle.solver_scan.specs.declared.Scan.{Scan}
use Rattle.solver_scan.specs.declared.Place.{Place}
use Rattle.solver_scan.specs.declared.Place.TheVariants.{BadForm, BadLiteral}
use Rattle.solver_scan.specs.SolverText.{Outcome, gives, refused, outcome, Bytes, AllRefused}
use Rattle.solver_scan.specs.Scanning.{bad, place_step, refused_at, at_limit, scan_byte, scan_end_at}
use Rattle.solver_text.specs.Machine.{at_rest, in_literal, landed, step, run, end_at, end, answer_at, told, fresh}
use Rattle.solver_text.specs.Calls.{Called, Reads, joined, RefusedExactly}
use Rattle.solver_scan.specs.Cases.{by, clash}
use Rattle.solver_agreement.specs.Counts.{kept_le, last_le}
use Rattle.solver_agreement.specs.Landing.{limit_step}
use Rattle.solver_agreement.specs.Staying.{accepted_place, at_both, refused_run, refused_end}
use Rattle.solver_agreement.specs.Standing.{Stands, text_stands, going}
use Rattle.solver_agreement.specs.Agreement.{failure, result_at, result_of, expected, final_result, agrees}
use Rattle.solver_agreement.specs.Pieces.{run_append, reads_run, reads_range}
use Rattle.solver_agreement.specs.Undecided.{undecided}

-- ---- one byte, by the limit

module _ (last kept : ℕ) (s : Scan) (t : List ℕ) (b : ℕ) where
  step_goes : eqb s.at 4294967295 ≡ false → landed s.place last kept s (place_step s.place s b) t ≡ step last kept s t b
  unfolding step scan_byte
  step_goes e = rw e

  step_stops : eqb s.at 4294967295 ≡ true → refused_at s.place ≡ false → at_rest (bad s) t ≡ step last kept s t b
  unfolding at_limit
  step_stops e h = sym (rw h at (limit_step last kept b s t e))

-- ---- the law

failure_same : (y x : Refusal) → failure y ≡ failure x → x ≡ y
failure_same y x e = cc

expected_refused : (kept : ℕ) (o : Outcome) (x : Refusal) → expected kept o ≡ failure x → o ≡ refused x
expected_refused kept (gives s) x e = clash (cc)
expected_refused kept (refused y) x e = cc

module _ (last kept : ℕ) (small : last ≤ 200000000) (fits : kept ≤ 5120) (text : List ℕ) (x : Refusal) where
  -- the reader that has read the text
  abbrev r : Reader
  r = run last kept fresh text

  -- what a text gives that goes on with u
  onward : (u : List ℕ) → final_result last kept (run last kept r u) ≡ expected kept (outcome last kept (text ++ u))
  unfolding final_result
  onward u = ap (λ q. result_of (end last kept q)) (sym (run_append last kept fresh text u)) ∙ agrees last kept small fits (text ++ u)

  module _ (h : refused_at r.scan.place ≡ true) where
    held : (u : List ℕ) → final_result last kept (run last kept r u) ≡ result_of r
    unfolding final_result
    held u = ap (λ q. result_of (end last kept q)) (refused_run last kept r h u) ∙ ap result_of (refused_end last kept r h)

    answer_held : ((told r).answer ≡ Err x) ↔ (result_of r ≡ failure x)
    unfolding answer_at
    answer_held =
        at_both r h (λ p. (answer_at p r.scan.at ≡ Err x) ↔ (result_at p r.scan r.named ≡ failure x)) (λ e. cc, λ e. cc) (λ e. cc, λ e. cc)

  refused_then : (told r).answer ≡ Err x → AllRefused last kept text x
  refused_then e u b = by (refused_at r.scan.place) stays (λ h. let k = accepted_place r.scan.place r.scan.at h in clash (cc))
    where
      stays : refused_at r.scan.place ≡ true → outcome last kept (text ++ u) ≡ refused x
      stays h = expected_refused kept (outcome last kept (text ++ u)) x (sym (onward u) ∙ held h u ∙ (answer_held h).0 e)

  -- the fault lies among the bytes read
  refused_before : (told r).answer ≡ Err x → x ≢ SolverForm (length text)
  unfolding answer_at
  refused_before e f = by (refused_at r.scan.place) (λ h. at_both r h P form literal (text_stands last kept text) e) (λ h. let k = accepted_place r.scan.place r.scan.at h in clash (cc))
    where
      P : Place → Type 0
      P p = Stands (length text) p r.scan.at → answer_at p r.scan.at ≡ Err x → ⊥

      form : P BadForm
      form s k = let z : r.scan.at ≡ length text = cc in absurd (omega arith)

      literal : P BadLiteral
      literal s k = clash (cc)

  module _ (every : AllRefused last kept text x) where
    fails : (u : List ℕ) → Bytes u → final_result last kept (run last kept r u) ≡ failure x
    fails u b = onward u ∙ ap (expected kept) (every u b)

    refused_now : refused_at r.scan.place ≡ true → (told r).answer ≡ Err x
    refused_now h = (answer_held h).1 (sym (held h []) ∙ fails [] tt)

    -- while nothing is refused, only a text of 4,294,967,295 bytes leaves no choice: 9 at its end or at the next byte
    no_room : refused_at r.scan.place ≡ false → (length text ≡ 4294967295) × (x ≡ SolverForm (length text))
    unfolding final_result end_at in_literal scan_end_at
    no_room h = by (eqb s.at 4294967295) stops goes
      where
        s : Scan
        s = r.scan

        here : s.at ≡ length text
        here = going last kept (length text) s.place s.at h (text_stands last kept text)

        after : (b : ℕ) → b < 256 → final_result last kept (step last kept s r.named b) ≡ failure x
        after b k = fails (b ∷ []) (k, tt)

        stops : eqb s.at 4294967295 ≡ true → (length text ≡ 4294967295) × (x ≡ SolverForm (length text))
        stops e =
            let z : x ≡ SolverForm s.at = failure_same (SolverForm s.at) x (ap (final_result last kept) (step_stops last kept s r.named 10 e h) ∙ after 10 (omega arith)) in
            (sym here ∙ eqb-true s.at 4294967295 e, z ∙ ap SolverForm here)

        goes : eqb s.at 4294967295 ≡ false → (length text ≡ 4294967295) × (x ≡ SolverForm (length text))
        goes e =
            absurd
            (undecided last kept x s.at s.verdict s.letters s.listed s.closed s.from s.minus s.value r.named s.place h (fails [] tt)
            (λ b k. ap (final_result last kept) (step_goes last kept s r.named b e) ∙ after b k))

module _ (last kept : ℕ) (small : last ≤ 200000000) (fits : kept ≤ 5120) (text : List ℕ) where
  pub refused_exactly : RefusedExactly last kept text (told (run last kept fresh text)).answer
  refused_exactly = record {
    exactly = λ k x. (refused_then last kept small fits text x, λ a. by refused_here (refused_now last kept small fits text x a) (λ h. absurd (k (no_room last kept small fits text x a h).0)));
    full = λ k x. (
      λ e. (refused_then last kept small fits text x e, λ f. refused_before last kept small fits text x e (f ∙ ap SolverForm (sym k))),
      λ (a, n). by refused_here (refused_now last kept small fits text x a) (λ h. absurd (n ((no_room last kept small fits text x a h).1 ∙ ap SolverForm k))),
    );
  }
    where
      refused_here : Bool
      refused_here = refused_at (run last kept fresh text).scan.place

-- for a fresh reader and calls with any pieces: what the call with the next piece is answered
pub piece_refused_exactly : {a : Automaton} {τ : Target} → Valid a → Proper τ → {us : List (List ℕ)} {q : Reader} {e : Reply} → Reads a τ fresh us q
    → (u : List ℕ) → Called a τ q (told (run (last a τ) (kept a τ) q u)) e → RefusedExactly (last a τ) (kept a τ) (joined us ++ u) e.answer
piece_refused_exactly {a} {τ} v z {us} {q} {e} k u c =
    let L = last a τ in
    let K = kept a τ in
    let now : e ≡ told (run L K fresh (joined us ++ u)) = c.text v (reads_range v z k) z ∙ ap (λ y. told (run L K y u)) (reads_run v z k) ∙ ap told (sym (run_append L K fresh (joined us) u)) in
    subst (λ y. RefusedExactly L K (joined us ++ u) y.answer) (sym now) (refused_exactly L K (omega (arith, last_le v z)) (kept_le v z) (joined us ++ u))
