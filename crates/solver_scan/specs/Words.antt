-- A verdict that goes on has another letter: no verdict has more than 13.
use Rattle.std.specs.Prelude.{◌≡◌, true, ℕ, ◌<◌, ltb}
use Rattle.std.proofs.Common.{arith, ltb-true}
use Rattle.meaning.specs.TestLaws.{and_left}
use Rattle.solver_scan.specs.declared.Verdict.{Verdict}
use Rattle.solver_scan.specs.declared.Verdict.TheVariants.{Unstated, Satisfiable, Unsatisfiable, Unknown}
use Rattle.solver_scan.specs.SolverText.{word}
use Rattle.solver_scan.specs.Scanning.{follows}

pub follows_short : (v : Verdict) (n b : ℕ) → follows (word v) n b ≡ true → n < 13
follows_short Unstated n b e = omega (arith, ltb-true n 0 (and_left (ltb n 0) _ e))
follows_short Satisfiable n b e = omega (arith, ltb-true n 11 (and_left (ltb n 11) _ e))
follows_short Unsatisfiable n b e = omega (arith, ltb-true n 13 (and_left (ltb n 13) _ e))
follows_short Unknown n b e = omega (arith, ltb-true n 7 (and_left (ltb n 7) _ e))
