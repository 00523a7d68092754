-- `everywhere` meets its contract.
use Rattle.std.proofs.Common.{arith, rules}
use Rattle.meaning.specs.CountingLaws.{filled_none, filled_more, filled_all}
use Rattle.clause_rows.proofs.everywhere.Goals as goal

pub loop-u-init : goal.loop-u-init
loop-u-init c = filled_none _ 16 _ (search rules)

pub loop-u-preserved : goal.loop-u-preserved
loop-u-preserved c = filled_more _ 16 _ _ _ c.loop-u.invariant (omega (arith, c.loop-u.invariant.size)) c.full_row.ensures

pub returns : goal.returns
returns c = filled_all _ 16 _ _ c.loop-u.invariant (omega (arith, c.loop-u.invariant.size))
