-- `naming::apart` meets its contract.
use Rattle.std.proofs.Common.{sym, ap, ◌∙◌, not, arith}
use Rattle.automaton.specs.Passes.{passes_none, passes_more, fails}
use Rattle.automaton.proofs.naming.apart.Goals as goal

pub loop-pair-init : goal.loop-pair-init
loop-pair-init c = passes_none _

pub returns-then-clash : goal.returns-then-clash
returns-then-clash c = fails _ 16 c.loop-pair.pair (omega arith) (ap not (sym c.clash.ensures ∙ c.if-clash.true))

pub loop-pair-preserved : goal.loop-pair-preserved
loop-pair-preserved c = passes_more _ _ c.loop-pair.invariant (ap not (sym c.clash.ensures ∙ c.if-clash.false))
