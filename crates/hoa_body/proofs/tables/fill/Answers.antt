-- `tables::fill` meets its contract.
use mathlib.Core.Path.{ap, ◌∙◌}
use mathlib.Core.Bool.{cond}
use Prim.Native.Nat.{◌+◌, ◌*◌}
use native.Mathlib.Omega.{arith}
use lib.ListN.{get_or}
use Rattle.hoa_body.proofs.TableLaws.{filled_none, filled_next}
use Rattle.hoa_body.proofs.tables.fill.Goals as goal

pub loop-letter-init : goal.loop-letter-init
loop-letter-init c = filled_none _ _ _ _

pub loop-letter-preserved : goal.loop-letter-preserved
loop-letter-preserved c =
    filled_next _ _ _ _ (omega arith) _ _ c.loop-letter.invariant _ (omega (arith, c.loop-letter.invariant.size))
    (c.either.ensures ∙ ap (λ b. cond b c.args.value (get_or c.loop-letter.cells (c.args.state * 16 + c.loop-letter.letter) 0)) c.has.ensures)
