-- `header` meets its contract.
use mathlib.Core.Path.{◌≡◌, subst}
use lib.ListN.{length}
use Rattle.clause_sizes.specs.Measured.{measured_of}
use Rattle.clause_sizes.specs.Sizes.{target_of}
use Rattle.clause_sizes.specs.Targets.{file}
use Rattle.clause_header.proofs.header.Goals as goal

pub clauses_of-clauses-requires : goal.clauses_of-clauses-requires
clauses_of-clauses-requires c =
    let (v, i, q, k) = c.in_ok-measured.ensures in
    measured_of v i q

pub returns : goal.returns
returns c =
    let (v, i, q, k) = c.in_ok-measured.ensures in
    (v, i, (k, subst (λ z. c.clauses_of-clauses.result ≡ length (file c.args.reference (target_of z))) q c.clauses_of-clauses.ensures))
