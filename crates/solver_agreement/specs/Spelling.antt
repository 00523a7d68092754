-- Spelling a verdict, letter by letter: the state's verdict and number of letters stand for the words that may still go on.
use Rattle.std.specs.Prelude.{◌≡◌, refl, Bool, true, false, cond, ◌&&◌, List, [], ◌∷◌, ℕ, zero, suc, ◌+◌, ltb, leb, eqb, length, get_or, drop}
use Rattle.std.proofs.Common.{ap, ◌∙◌, add-one, arith, eqb-true, ne_eqb, ltb-true, ltb-false, le-leb, drop_of_length-le, drop-cons}
use Rattle.std.proofs.lemmas.Bool.{lt-leb}
use Rattle.meaning.specs.TestLaws.{and_left, and_right}
use Rattle.solver_scan.specs.declared.Verdict.{Verdict}
use Rattle.solver_scan.specs.declared.Verdict.TheVariants.{Unstated, Satisfiable, Unsatisfiable, Unknown}
use Rattle.solver_scan.specs.SolverText.{Outcome, form, word, going, complete, unless_none, spelled}
use Rattle.solver_scan.specs.Scanning.{spelt, follows, turns}
use Rattle.solver_scan.specs.Cases.{by}

-- up to UN, UNKNOWN goes on beside UNSATISFIABLE
abbrev pub beside : ℕ → List (Verdict × List ℕ)
beside zero = (Unknown, word Unknown) ∷ []
beside (suc zero) = (Unknown, drop 1 (word Unknown)) ∷ []
beside (suc (suc zero)) = (Unknown, drop 2 (word Unknown)) ∷ []
beside (suc (suc (suc n))) = []

-- the words that n letters of the verdict v have left open
abbrev pub left : Verdict → ℕ → List (Verdict × List ℕ)
left Unstated n = (Unstated, drop n (word Unstated)) ∷ []
left Satisfiable n = (Satisfiable, drop n (word Satisfiable)) ∷ []
left Unsatisfiable n = (Unsatisfiable, drop n (word Unsatisfiable)) ∷ beside n
left Unknown n = (Unknown, drop n (word Unknown)) ∷ []

-- ---- one word

going_one : (v : Verdict) (w : List ℕ) (n b : ℕ) → going b ((v, drop n w) ∷ []) ≡ cond (follows w n b) ((v, drop (n + 1) w) ∷ []) []
going_one v w n b =
    by (ltb n (length w)) (λ e. rw (e, drop-cons w n 0 (ltb-true n (length w) e), add-one n)) (λ e. rw (e, drop_of_length-le w {i = n} (ltb-false n (length w) e)))

complete_one : (o : ℕ) (f : Verdict → Outcome) (v : Verdict) (w : List ℕ) (n : ℕ) → complete o f ((v, drop n w) ∷ []) ≡ cond (leb (length w) n) (f v) (form o)
complete_one o f v w n =
    by (ltb n (length w)) (λ e. rw (drop-cons w n 0 (ltb-true n (length w) e), lt-leb (length w) n (ltb-true n (length w) e)))
    (λ e. rw (drop_of_length-le w {i = n} (ltb-false n (length w) e), le-leb (length w) n (ltb-false n (length w) e)))

spelled_one : (o : ℕ) (f : Verdict → Outcome) (v : Verdict) (w : List ℕ) (n b : ℕ) (u : List ℕ)
    → spelled o f ((v, drop n w) ∷ []) (b ∷ u) ≡ cond (follows w n b) (spelled (o + 1) f ((v, drop (n + 1) w) ∷ []) u) (form o)
spelled_one o f v w n b u =
    ap (λ ws. unless_none ws (spelled (o + 1) f ws u) (form o)) (going_one v w n b) ∙ by (follows w n b) (λ e. rw e) (λ e. rw e)

-- ---- a verdict

pub complete_left : (o : ℕ) (f : Verdict → Outcome) (v : Verdict) (n : ℕ) → complete o f (left v n) ≡ cond (spelt v n) (f v) (form o)
unfolding spelt
complete_left o f Unstated n = complete_one o f Unstated (word Unstated) n
complete_left o f Satisfiable n = complete_one o f Satisfiable (word Satisfiable) n
complete_left o f Unknown n = complete_one o f Unknown (word Unknown) n
complete_left o f Unsatisfiable zero = refl
complete_left o f Unsatisfiable (suc zero) = refl
complete_left o f Unsatisfiable (suc (suc zero)) = refl
complete_left o f Unsatisfiable (suc (suc (suc n))) = complete_one o f Unsatisfiable (word Unsatisfiable) (suc (suc (suc n)))

no_turn : (x y : Bool) → (x && (y && false)) ≡ false
no_turn true true = refl
no_turn true false = refl
no_turn false y = refl

alone : (o : ℕ) (f : Verdict → Outcome) (n : ℕ) (u : List ℕ)
    → spelled o f ((Unsatisfiable, drop (suc (suc (suc n)) + 1) (word Unsatisfiable)) ∷ []) u ≡ spelled o f (left Unsatisfiable (suc (suc (suc n)) + 1)) u
alone o f n u = rw (add-one (suc (suc (suc n))))

-- the next byte of a token: the verdict goes on, or turns to UNKNOWN
pub spelled_left : (o : ℕ) (f : Verdict → Outcome) (v : Verdict) (n b : ℕ) (u : List ℕ) → spelled o f (left v n) (b ∷ u)
    ≡ cond (follows (word v) n b) (spelled (o + 1) f (left v (n + 1)) u) (cond (turns v n b) (spelled (o + 1) f (left Unknown 3) u) (form o))
unfolding turns
spelled_left o f Unstated n b u = rw (no_turn (eqb n 2) (eqb b 75)) (spelled_one o f Unstated (word Unstated) n b u)
spelled_left o f Satisfiable n b u = rw (no_turn (eqb n 2) (eqb b 75)) (spelled_one o f Satisfiable (word Satisfiable) n b u)
spelled_left o f Unknown n b u = rw (no_turn (eqb n 2) (eqb b 75)) (spelled_one o f Unknown (word Unknown) n b u)
spelled_left o f Unsatisfiable zero b u = by (eqb b 85) (λ e. rw e) (λ e. rw e)
spelled_left o f Unsatisfiable (suc zero) b u = by (eqb b 78) (λ e. rw e) (λ e. rw e)
spelled_left o f Unsatisfiable (suc (suc zero)) b u = by (eqb b 83) (λ e. rw (eqb-true b 83 e)) (λ e. by (eqb b 75) (λ k. rw (e, k)) (λ k. rw (e, k)))
spelled_left o f Unsatisfiable (suc (suc (suc n))) b u =
    let z : eqb (suc (suc (suc n))) 2 ≡ false = ne_eqb (suc (suc (suc n))) 2 (λ e. absurd (omega arith)) in
    rw (z, ← alone (o + 1) f n u) (spelled_one o f Unsatisfiable (word Unsatisfiable) (suc (suc (suc n))) b u)

-- 256 is no letter
letterless : (w : List ℕ) → Bool
letterless [] = true
letterless (x ∷ w) = ltb x 256 && letterless w

no_letter : (w : List ℕ) (n : ℕ) → letterless w ≡ true → eqb 256 (get_or w n 0) ≡ false
unfolding letterless
no_letter [] n h = refl
no_letter (x ∷ w) zero h = ne_eqb 256 x (λ e. absurd (omega (arith, ltb-true x 256 (and_left (ltb x 256) (letterless w) h))))
no_letter (x ∷ w) (suc n) h = no_letter w n (and_right (ltb x 256) (letterless w) h)

and_no : (x : Bool) {y : Bool} → y ≡ false → (x && y) ≡ false
and_no true e = e
and_no false e = refl

pub follows_none : (v : Verdict) (n : ℕ) → follows (word v) n 256 ≡ false
unfolding letterless
follows_none Unstated n = and_no (ltb n 0) (no_letter (word Unstated) n refl)
follows_none Satisfiable n = and_no (ltb n 11) (no_letter (word Satisfiable) n refl)
follows_none Unsatisfiable n = and_no (ltb n 13) (no_letter (word Unsatisfiable) n refl)
follows_none Unknown n = and_no (ltb n 7) (no_letter (word Unknown) n refl)

pub turns_none : (v : Verdict) (n : ℕ) → turns v n 256 ≡ false
unfolding turns
turns_none v n = and_no (eqb n 2) refl
