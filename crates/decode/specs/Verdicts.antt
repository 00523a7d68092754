-- A text that is not turned down states a verdict, so that the cases of the decoder's answer are all.
use Rattle.std.specs.Prelude.{◌≡◌, false, List, [], ◌∷◌, ℕ, ◌+◌}
use Rattle.std.proofs.Math.Path.{subst}
use Rattle.solver_scan.specs.SolverText.{Seen, Outcome, gives, refused, followed, past, split, lf, fenced, unread, unstated, satisfiable, line, judged, lines, outcome}
use Rattle.solver_scan.specs.Cases.{either}

-- nothing is said of a text that is turned down
abbrev Stated : Outcome → Type 0
Stated (gives s) = unstated s.verdict ≡ false
Stated (refused f) = Unit {0}

followed_stated : (x : Outcome) (f : Seen → Outcome) → ((s : Seen) → Stated (f s)) → Stated (followed x f)
followed_stated (gives s) f h = h s
followed_stated (refused y) f h = tt

module _ (last kept : ℕ) where
  judged_stated : (o : ℕ) (s : Seen) → Stated (judged last kept o s)
  unfolding judged
  judged_stated o s =
      either Stated (unstated s.verdict) (λ e. tt)
      (λ e. either Stated (satisfiable s.verdict) (λ _. either Stated s.closed (λ _. e) (λ _. tt)) (λ _. either Stated s.listed (λ _. tt) (λ _. e)))

  lines_stated : (e : ℕ) (s : Seen) (ks : List (List ℕ)) → Stated (lines last kept e s ks)
  lines_stated e s [] = judged_stated e s
  lines_stated e s (k ∷ ks) = followed_stated (line last kept (e + 1) s k) _ (λ r. lines_stated (past (e + 1) k) r ks)

  pub verdict_stated : (text : List ℕ) (s : Seen) → outcome last kept text ≡ gives s → unstated s.verdict ≡ false
  unfolding outcome
  verdict_stated text s e =
      let c = split lf (fenced 0 text) in
      subst Stated e (followed_stated (line last kept 0 unread c.0) (λ r. lines last kept (past 0 c.0) r c.1) (λ r. lines_stated (past 0 c.0) r c.1))
