-- READING PIECES ONE AFTER ANOTHER IS READING WHAT THEY MAKE UP, and the reply at the end is that of the whole text.
use Rattle.std.specs.Prelude.{◌≡◌, refl, List, [], ◌∷◌, ◌++◌, ℕ, zero, suc, get_or, replicate, Ok, Err}
use Rattle.std.proofs.Common.{sym, ap, subst, ◌∙◌, arith}
use Rattle.automaton.specs.declared.Automaton.{Automaton}
use Rattle.refusals.specs.declared.Refusal.{Refusal}
use Rattle.refusals.specs.declared.Refusal.TheVariants.{SolverForm, Literal}
use Rattle.automaton.specs.Value.{Valid}
use Rattle.clause_sizes.specs.declared.Target.{Target}
use Rattle.clause_sizes.specs.Targets.{Proper, last, kept}
use Rattle.solver_text.specs.declared.Reader.{Reader}
use Rattle.solver_text.specs.declared.Reply.{Reply}
use Rattle.solver_scan.specs.declared.Scan.{Scan}
use Rattle.solver_scan.specs.declared.Place.{Place}
use Rattle.solver_scan.specs.declared.Place.TheVariants.{Start, Comment, AfterS, BeforeWord, Word, AfterWord, AfterToken, BeforeToken, AfterMinus, Digits, Ended, BadForm, BadLiteral}
use Rattle.solver_scan.specs.SolverText.{Seen, Outcome, gives, refused, outcome}
use Rattle.solver_text.specs.Machine.{at_rest, step, run, end, answer_at, fresh}
use Rattle.solver_text.specs.Calls.{InRange, Reads, none, piece, Ends, joined}
use Rattle.solver_scan.specs.Cases.{clash}
use Rattle.solver_agreement.specs.Counts.{kept_le, last_le}
use Rattle.solver_agreement.specs.Range.{run_kept}
use Rattle.solver_agreement.specs.Table.{table}
use Rattle.solver_agreement.specs.Agreement.{result, failure, unended, result_of, result_at, expected, agrees}

pub run_append : (last kept : ℕ) (r : Reader) (u w : List ℕ) → run last kept r (u ++ w) ≡ run last kept (run last kept r u) w
run_append v k r [] w = refl
run_append v k r (b ∷ u) w = run_append v k (step v k r.scan r.named b) u w

module _ {a : Automaton} {τ : Target} (v : Valid a) (z : Proper τ) where
  -- for every list of pieces, and from every state in its ranges
  pub pieces : {r q : Reader} {us : List (List ℕ)} → InRange r → Reads a τ r us q → q ≡ run (last a τ) (kept a τ) r (joined us)
  pieces h none = refl
  pieces {r} h (piece {u} {e} {us} c k) =
      let L = last a τ in
      let K = kept a τ in
      let after : e.reader ≡ run L K r u = ap (λ x. x.reader) (c.text v h z) in
      pieces (subst InRange (sym after) (run_kept L K r u h)) k ∙ ap (λ x. run L K x (joined us)) after ∙ sym (run_append L K r u (joined us))

-- ---- a fresh reader

zeros : (n i : ℕ) → ◌≡◌ {A = ℕ} (get_or (replicate n 0) i 0) 0
zeros zero i = refl
zeros (suc n) zero = refl
zeros (suc n) (suc i) = zeros n i

pub fresh_range : InRange fresh
fresh_range = record { letters_le = omega arith; value_le = omega arith; named_le = λ v h. omega (arith, zeros 5121 v) }

module _ {a : Automaton} {τ : Target} (v : Valid a) (z : Proper τ) {us : List (List ℕ)} {q : Reader} (k : Reads a τ fresh us q) where
  pub reads_run : q ≡ run (last a τ) (kept a τ) fresh (joined us)
  reads_run = pieces v z fresh_range k

  pub reads_range : InRange q
  reads_range = subst InRange (sym reads_run) (run_kept (last a τ) (kept a τ) fresh (joined us) fresh_range)

-- ---- the reply at the end

-- a refusal of the text, or the verdict and the table of the literals named
pub record Tells (kept : ℕ) (x : Outcome) (e : Reply) : Type 0 where
  pub refusal : (y : Refusal) → x ≡ refused y → e.answer ≡ Err y
  pub accepted : (s : Seen) → x ≡ gives s → e.answer ≡ Ok tt
  pub ended : (s : Seen) → x ≡ gives s → e.reader.scan.place ≡ Ended
  pub verdict : (s : Seen) → x ≡ gives s → e.reader.scan.verdict ≡ s.verdict
  pub named : (s : Seen) → x ≡ gives s → e.reader.named ≡ table kept s.literals

module _ (kept : ℕ) where
  unended_tells : {P : Type 0} (x : Outcome) → unended ≡ expected kept x → P
  unended_tells (gives s) e = clash (cc)
  unended_tells (refused y) e = clash (cc)

  ended_tells : (s : Scan) (t : List ℕ) (x : Outcome) → s.place ≡ Ended → result s.verdict t ≡ expected kept x
      → Tells kept x (record { answer = Ok tt; reader = at_rest s t })
  ended_tells s t (gives y) p e =
      record {
        refusal = λ z f. clash (cc);
        accepted = λ z f. refl;
        ended = λ z f. p;
        verdict = λ z f. cc;
        named = λ z f. let g : t ≡ table kept y.literals = cc in let h : y ≡ z = cc in g ∙ ap (λ w. table kept w.literals) h;
      }
  ended_tells s t (refused y) p e = clash (cc)

  failed_tells : (r : Reader) (y : Refusal) (x : Outcome) → failure y ≡ expected kept x → Tells kept x (record { answer = Err y; reader = r })
  failed_tells r y (gives s) e = clash (cc)
  failed_tells r y (refused z) e =
      record { refusal = λ w f. cc; accepted = λ s f. clash (cc); ended = λ s f. clash (cc); verdict = λ s f. clash (cc); named = λ s f. clash (cc) }

  tells : (p : Place) (s : Scan) (t : List ℕ) (x : Outcome) → s.place ≡ p → result_at p s t ≡ expected kept x
      → Tells kept x (record { answer = answer_at p s.at; reader = at_rest s t })
  unfolding answer_at
  tells Start s t x p e = unended_tells x e
  tells Comment s t x p e = unended_tells x e
  tells AfterS s t x p e = unended_tells x e
  tells BeforeWord s t x p e = unended_tells x e
  tells Word s t x p e = unended_tells x e
  tells AfterWord s t x p e = unended_tells x e
  tells AfterToken s t x p e = unended_tells x e
  tells BeforeToken s t x p e = unended_tells x e
  tells AfterMinus s t x p e = unended_tells x e
  tells Digits s t x p e = unended_tells x e
  tells Ended s t x p e = ended_tells s t x p e
  tells BadForm s t x p e = failed_tells (at_rest s t) (SolverForm s.at) x e
  tells BadLiteral s t x p e = failed_tells (at_rest s t) (Literal s.at) x e

-- "Text may arrive cut anywhere; the answer is that of the whole text": a fresh reader, calls with any pieces, and the end
pub whole_text : {a : Automaton} {τ : Target} → Valid a → Proper τ → {us : List (List ℕ)} {q : Reader} {e : Reply} → Reads a τ fresh us q → Ends a τ q e
    → Tells (kept a τ) (outcome (last a τ) (kept a τ) (joined us)) e
whole_text {a} {τ} v z {us} {q} {e} k c =
    let L = last a τ in
    let K = kept a τ in
    let at : q ≡ run L K fresh (joined us) = reads_run v z k in
    let h : InRange q = reads_range v z k in
    let r = end L K q in
    let same : result_of r ≡ expected K (outcome L K (joined us)) = ap (λ y. result_of (end L K y)) at ∙ agrees L K (omega (arith, last_le v z)) (kept_le v z) (joined us) in
    subst (λ y. Tells K (outcome L K (joined us)) y) (sym (c.text v h z)) (tells K r.scan.place r.scan r.named (outcome L K (joined us)) refl same)
