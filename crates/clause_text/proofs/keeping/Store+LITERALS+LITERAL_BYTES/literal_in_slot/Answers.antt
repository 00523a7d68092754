-- `literal_in_slot` meets its contract.
use mathlib.Core.Path.{refl}
use native.Mathlib.Omega.{arith}
use Rattle.clause_text.proofs.Slots.{text_kept}
use Rattle.clause_text.proofs.keeping.Store+LITERALS+LITERAL_BYTES.literal_in_slot.Goals as goal

pub returns : goal.returns
returns c =
    let (w, h) = c.keep_literal-size.ensures in
    text_kept refl c.requires.kept c.requires.variable_nonzero.2 (omega arith) (omega (arith, w.next)) w c.enter.ensures.sizes c.enter.ensures.bytes
