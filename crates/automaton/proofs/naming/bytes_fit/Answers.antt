-- `naming::bytes_fit` meets its contract.
use Rattle.std.proofs.Common.{sym, ◌∙◌, arith}
use Rattle.automaton.specs.Passes.{passes_none, passes_more, fails}
use Rattle.automaton.proofs.naming.bytes_fit.Goals as goal

pub loop-i-init : goal.loop-i-init
loop-i-init c = passes_none _

pub returns-then-not-byte_fits : goal.returns-then-not-byte_fits
returns-then-not-byte_fits c = fails _ 64 c.loop-i.i (omega arith) (sym c.byte_fits.ensures ∙ c.if-not-byte_fits.true)

pub loop-i-preserved : goal.loop-i-preserved
loop-i-preserved c = passes_more _ _ c.loop-i.invariant (sym c.byte_fits.ensures ∙ c.if-not-byte_fits.false)
