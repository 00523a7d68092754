-- `yes_pairs` meets its contract. The invariant: the sum over the first x pairs.
use Rattle.std.proofs.Common.{◌≡◌, ◌≤◌, arith, rules}
use Rattle.clause_header.proofs.Counting.{yes_at, in_a_row, total_none, total_more}
use Rattle.clause_header.proofs.yes_pairs.Goals as goal

pub loop-x-init : goal.loop-x-init
loop-x-init c = (total_none _, omega arith)

pub returns : goal.returns
returns c = (in_a_row c.requires (omega arith) c.loop-x.invariant.0, omega arith)

pub loop-x-preserved : goal.loop-x-preserved
loop-x-preserved c =
    let one : c.from-count.result ≡ yes_at c.args.z c.loop-x.x = search rules in
    let small : c.from-count.result ≤ 1 = search rules in
    (total_more _ _ c.loop-x.invariant.0 one, omega arith)
