-- `quoted::quoted` meets its contract.
use mathlib.Core.Path.{sym, ◌∙◌}
use Rattle.hoa_text.specs.QuotedOffsets.{quotes_open}
use native.Mathlib.Omega.{arith}
use Rattle.hoa_tokens.proofs.Laws.{quotes_step, quotes_close, quotes_cut}
use Rattle.hoa_text.specs.Offsets.{byte_inside}
use Rattle.hoa_tokens.proofs.quoted.quoted.Goals as goal

pub loop-end-init : goal.loop-end-init
loop-end-init c = quotes_open _ _ (omega (arith, byte_inside c.args.text.now c.args.start 33 c.requires))

pub returns-then-free : goal.returns-then-free
returns-then-free c = quotes_close _ c.requires c.loop-end.invariant (sym c.free.ensures ∙ c.if-free.true)

pub loop-end-preserved : goal.loop-end-preserved
loop-end-preserved c = quotes_step _ _ c.loop-end.invariant c.loop-end-test.true (sym c.free.ensures ∙ c.if-free.false) c.free-carried.ensures

pub returns : goal.returns
returns c = quotes_cut _ c.requires c.loop-end.invariant (omega arith)
